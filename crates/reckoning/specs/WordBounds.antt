-- Bounds of machine words, under which the code's numbers fit. Each system's constants and every year in scope keep
-- them (see `constants_fit`, `year_in_register`), and so do all register days of 32 bits.
use Rattle.std.specs.Prelude.{ℕ, ◌+◌, ◌*◌, ◌^◌, ◌≤◌, ◌<◌, ◌≡◌}
use Rattle.calendar.specs.declared.data.Constants.{Constants}
use Rattle.calendar.specs.Systems.{years_elapsed}
use Rattle.calendar.specs.Steps.{solstice, solstice_day, moment, day_of}
use Rattle.calendar.specs.Month.{month_head}
use Rattle.calendar.specs.Consistent.{Consistent}
use Rattle.calendar.specs.ClosedForms.{first_month, head_of_year}
use Rattle.reckoning.specs.declared.month_spans.MonthSpan.{MonthSpan}
use Rattle.reckoning.specs.Scope.{YearInScope}
use Rattle.reckoning.specs.MonthSpans.{month_span}

-- Products of the constants with counts of months, days, years and steps of a year, up to 72.
pub record ConstantsFit (c : Constants) : Type 0 where
  pub consistent : Consistent c
  pub units_small : c.units < 2 ^ 32
  pub denominator_small : c.denominator < 2 ^ 32
  pub lunar_days : 2 ^ 38 * c.lunar < 2 ^ 63
  pub solar_days : 2 ^ 38 * (72 * c.solar) < 2 ^ 63
  pub months : 2 ^ 32 * c.month < 2 ^ 63
  pub years : 2 ^ 32 * c.year < 2 ^ 63
  pub elapsed_small : c.elapsed < 2 ^ 31
  pub anchor_small : c.anchor < 2 ^ 35

-- Count day d has a register day of 32 bits, with room for a year's days after it.
pub record InRegister (c : Constants) (d : ℕ) : Type 0 where
  pub from : c.anchor ≤ d + c.epoch
  pub before : d + c.epoch < c.anchor + 2 ^ 31
  pub small : d + c.epoch < 2 ^ 36

-- Year n has a head with a register day.
pub record HeadInRegister (c : Constants) (n : ℕ) : Type 0 where
  pub constants_fit : ConstantsFit c
  pub elapsed : n < 2 ^ 28
  pub head : InRegister c (head_of_year c n)

-- A month as the code has it, with room for the two after it.
pub record SpanFits (c : Constants) (m : MonthSpan) : Type 0 where
  pub constants_fit : ConstantsFit c
  pub is : m ≡ month_span c m.month
  pub small : m.month + 2 < 2 ^ 32

-- Year n lies within the register.
pub record YearInRegister (c : Constants) (n : ℕ) : Type 0 where
  pub constants_fit : ConstantsFit c
  pub elapsed : n + 1 < 2 ^ 28
  pub months : first_month c (n + 1) < 2 ^ 31
  pub solstice_small : solstice c n < 2 ^ 62
  pub next_in_units : solstice c (n + 1) * c.units < 2 ^ 62
  pub next_in_pentad_units : solstice c (n + 1) * c.denominator < 2 ^ 62
  pub solstice_in_register : InRegister c (solstice_day c n)
  pub next_solstice_day : InRegister c (solstice_day c (n + 1))
  pub head : (k : ℕ) → first_month c n ≤ k → k ≤ first_month c (n + 1) → InRegister c (month_head c k)

-- Every year in scope does.
pub record YearsInRegister (c : Constants) : Type 0 where
  pub constants_fit : ConstantsFit c
  pub in_register : (year : ℕ) → YearInScope year → YearInRegister c (years_elapsed c year)

-- Step i of year n, of s equal ones, in units of which a part has u.
pub record StepFits (c : Constants) (s u n i : ℕ) : Type 0 where
  pub constants_fit : ConstantsFit c
  pub steps_some : 0 < s
  pub units_some : 0 < u
  pub units_small : u < 2 ^ 32
  pub year_small : c.year * u < 2 ^ 62
  pub solstice_small : solstice c n < 2 ^ 62
  pub moment_small : moment c s u n i < 2 ^ 62
  pub day : InRegister c (day_of c u (moment c s u n i))

-- A day before which the last of s equal steps a year can be found.
pub record LastStepFits (c : Constants) (s d : ℕ) : Type 0 where
  pub constants_fit : ConstantsFit c
  pub steps_some : 0 < s
  pub steps_most : s ≤ 72
  pub day_some : 0 < d
  pub day_small : d ≤ 2 ^ 38

-- Year n and its first month, with room for sixteen middle qi and months from there.
pub record FirstMonthFits (c : Constants) (n first : ℕ) : Type 0 where
  pub constants_fit : ConstantsFit c
  pub elapsed : n < 2 ^ 28
  pub is_first : first ≡ first_month c n
  pub small : first < 2 ^ 31

-- `count` months from month `first` on, and the head after them, lie within the register.
pub record MonthsInRegister (c : Constants) (first count : ℕ) : Type 0 where
  pub constants_fit : ConstantsFit c
  pub first_small : first < 2 ^ 31
  pub count_most : count ≤ 13
  pub head : (i : ℕ) → i ≤ count → InRegister c (month_head c (first + i))
