-- Paper 02, Q-5: which heads are printed, and what the page says of a year.
use Rattle.std.specs.Prelude.{ℕ, ◌≡◌, Bool, cond, ◌&&◌, eqb, leb, Option, Some, None}
use Rattle.calendar.specs.declared.data.Constants.{Constants}
use Rattle.calendar.specs.declared.data.RegisterDay.{RegisterDay}
use Rattle.calendar.specs.Inside.{Inside}
use Rattle.calendar.specs.Systems.{constants_of, years_elapsed, IsRegisterDay}
use Rattle.calendar.specs.Year.{Span, year_head}
use Rattle.calendar.specs.ClosedForms.{register_head}

-- The common years whose heads are printed, of Guantian alone, system 1.
abbrev pub first_year : ℕ
first_year = 960

abbrev pub last_year : ℕ
last_year = 1279

pub record OnPage (system year : ℕ) : Type 0 where
  pub is_guantian : system ≡ 1
  pub year_inside : Inside first_year last_year year

-- r is the register day of the head of the year with n years elapsed: of the first day of the month that has the
-- solstice's day, by the rule of Q-2.
pub record IsHead (c : Constants) (n r : ℕ) : Type 0 where
  pub span : Span c n
  pub is_register_day : IsRegisterDay c r (year_head span)

-- What the page says of a common year, in words. That it is read from the 320 numbers no definition says: see `entry` in
-- src/lib.rt.
abbrev pub Says : ℕ → ℕ → Option RegisterDay → Type 0
Says system year (Some r) =
    OnPage system year × IsHead (constants_of system) (years_elapsed (constants_of system) year) r.0
Says system year None = OnPage system year → ⊥

-- Computed: whether the page has a year, and what it says of it.
abbrev pub on_page : ℕ → ℕ → Bool
on_page system year = eqb system 1 && (leb first_year year && leb year last_year)

unfoldable pub printed_head : ℕ → ℕ → Option RegisterDay
printed_head system year =
    let c = constants_of system in
    cond (on_page system year) (Some (register_head c (years_elapsed c year))) None
