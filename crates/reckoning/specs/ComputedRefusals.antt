-- Numbered refusals of papers 01 and 02 as they are computed: rules in the table's order, of which the first that
-- applies counts.
use Rattle.std.specs.Prelude.{ℕ, ◌+◌, Bool, cond, not, ◌&&◌, ◌||◌, List, [], ◌∷◌, ltb, leb, eqb}
use Rattle.calendar.specs.declared.data.Constants.{Constants}
use Rattle.calendar.specs.Systems.{last_system, years_elapsed}
use Rattle.calendar.specs.Steps.{solstice_day}
use Rattle.calendar.specs.ClosedForms.{head_of_year, leap_follows}
use Rattle.reckoning.specs.Divisions.{qis, pentads}
use Rattle.reckoning.specs.RefusalNumbers.{SYSTEM, YEAR, STEP}

infixl 20 ◌if◌
-- A refusal's number, and whether it applies.
pub data Rule : Type 0 where
  ◌if◌ : ℕ → Bool → Rule

-- The number of the first rule that applies; 0 where none does.
abbrev pub first : List Rule → ℕ
first [] = 0
first ((number if applies) ∷ rules) = cond applies number (first rules)

-- x is not `least` to `most`.
abbrev pub outside : ℕ → ℕ → ℕ → Bool
outside least most x = ltb x least || ltb most x

-- Refusals SYSTEM, YEAR and STEP.
abbrev pub no_such_system : ℕ → Bool
no_such_system system = outside 1 last_system system

abbrev pub wrong_system : ℕ → Rule
wrong_system system = SYSTEM if no_such_system system

abbrev pub out_of_years : ℕ → Bool
out_of_years year = outside 1 3000 year

abbrev pub wrong_year : ℕ → Rule
wrong_year year = YEAR if out_of_years year

abbrev pub wrong_step : ℕ → ℕ → Rule
wrong_step most i = STEP if ltb most i

-- A direct request by system and year is refused SYSTEM, then YEAR,
unfoldable pub year_refusal : ℕ → ℕ → ℕ
year_refusal system year = first (wrong_system system ∷ wrong_year year ∷ [])

-- and then STEP where one of the year's steps is asked, numbered 0 to `most`:
unfoldable pub step_refusal : ℕ → ℕ → ℕ → ℕ → ℕ
step_refusal most system year i = first (wrong_system system ∷ wrong_year year ∷ wrong_step most i ∷ [])

-- a qi,
abbrev pub qi_refusal : ℕ → ℕ → ℕ → ℕ
qi_refusal system year i = step_refusal qis.last system year i

-- or a pentad.
abbrev pub pentad_refusal : ℕ → ℕ → ℕ → ℕ
pentad_refusal system year p = step_refusal pentads.last system year p

-- Refusal MONTH: a number or a mark that no month has.
abbrev pub month_wrong : ℕ → ℕ → Bool
month_wrong number leap = outside 1 12 number || outside 0 1 leap

-- Refusal LEAP: the mark, on a month that no leap month follows in year n.
abbrev pub leap_wrong : Constants → ℕ → ℕ → ℕ → Bool
leap_wrong c n number leap = eqb leap 1 && not (leap_follows c n number)

-- Refusal DAY, of a register day: it lies outside years 1 to 3000, which end where year 3001 begins. `begins` tells the
-- count day that a year begins on:
abbrev pub outside_years : (ℕ → ℕ) → Constants → ℕ → Bool
outside_years begins c r =
    ltb (r + c.anchor) (begins (years_elapsed c 1) + c.epoch) || leb (begins (years_elapsed c 3001) + c.epoch) (r + c.anchor)

-- its head,
abbrev pub day_wrong : Constants → ℕ → Bool
day_wrong c r = outside_years (head_of_year c) c r

-- or, counted from solstice to solstice, the solstice's day.
abbrev pub solar_day_wrong : Constants → ℕ → Bool
solar_day_wrong c r = outside_years (solstice_day c) c r
