-- How a request for a year's days, for one of them by its ordinal, for one month, for a date or for the pentad in force
-- can end, in the paper's words.
use Rattle.std.specs.Prelude.{ℕ, ◌+◌, ◌-◌, ◌≡◌}
use Rattle.calendar.specs.Inside.{Inside}
use Rattle.calendar.specs.Systems.{constants_of, years_elapsed, IsRegisterDay}
use Rattle.calendar.specs.Pentad.{InForce, InSolarYear}
use Rattle.calendar.specs.Month.{month_head, InMonth, month_length}
use Rattle.calendar.specs.Year.{Span, year_head, year_length, day_of_ordinal, MonthNumbered, LeapNumber}
use Rattle.reckoning.specs.Answers.{DaysAnswer, MonthAnswer, OrdinalAnswer, DateAnswer, PentadAnswer}
use Rattle.reckoning.specs.Scope.{SystemInScope, YearInScope, InScope, NoSuchMonth, NotLeap, DayInScope, SolarDayInScope}
use Rattle.reckoning.specs.RefusalNumbers.{SYSTEM, YEAR, MONTH, DAY, LEAP}
use Rattle.reckoning.specs.Requests.{no_days, no_ordinal_day, no_month, no_month_telling, no_date, none_in_force}

-- The days of a year, answered: its head and its length.
pub record DaysFound (system year : ℕ) (v : DaysAnswer) : Type 0 where
  pub in_scope : InScope system year
  pub span : Span (constants_of system) (years_elapsed (constants_of system) year)
  pub not_refused : v.refusal ≡ 0
  pub head_is : IsRegisterDay (constants_of system) v.head.0 (year_head span)
  pub length_is : v.length ≡ year_length span

-- Refused SYSTEM, then YEAR; or answered.
pub data DaysOutcome (system year : ℕ) (v : DaysAnswer) : Type 0 where
  system_refused : (SystemInScope system → ⊥) → v ≡ no_days SYSTEM → DaysOutcome system year v
  year_refused : SystemInScope system → (YearInScope year → ⊥) → v ≡ no_days YEAR → DaysOutcome system year v
  found : DaysFound system year v → DaysOutcome system year v

-- A day of a year by its ordinal, answered: the day, its month by number and leap mark, and its place there.
pub record OrdinalFound (system year ordinal : ℕ) (v : OrdinalAnswer) : Type 0 where
  pub in_scope : InScope system year
  pub span : Span (constants_of system) (years_elapsed (constants_of system) year)
  pub inside : Inside 1 (year_length span) ordinal
  pub k : ℕ
  pub numbered : MonthNumbered (constants_of system) (years_elapsed (constants_of system) year) v.month v.leap k
  pub not_refused : v.refusal ≡ 0
  pub is_day : IsRegisterDay (constants_of system) v.day.0 (day_of_ordinal span ordinal)
  pub in_month : InMonth (constants_of system) k (day_of_ordinal span ordinal)
  pub place_is : v.place ≡ day_of_ordinal span ordinal - month_head (constants_of system) k + 1

-- Refused SYSTEM, then YEAR, then DAY where the year has no such day; or answered.
pub data OrdinalOutcome (system year ordinal : ℕ) (v : OrdinalAnswer) : Type 0 where
  system_refused : (SystemInScope system → ⊥) → v ≡ no_ordinal_day SYSTEM → OrdinalOutcome system year ordinal v
  year_refused : SystemInScope system → (YearInScope year → ⊥) → v ≡ no_ordinal_day YEAR → OrdinalOutcome system year ordinal v
  day_refused : InScope system year
      → (span : Span (constants_of system) (years_elapsed (constants_of system) year))
      → (Inside 1 (year_length span) ordinal → ⊥)
      → v ≡ no_ordinal_day DAY
      → OrdinalOutcome system year ordinal v
  found : OrdinalFound system year ordinal v → OrdinalOutcome system year ordinal v

-- One month, answered: its head and its length.
pub record MonthFound (system year number leap : ℕ) (v : MonthAnswer) : Type 0 where
  pub in_scope : InScope system year
  pub number_inside : Inside 1 12 number
  pub mark_inside : Inside 0 1 leap
  pub k : ℕ
  pub numbered : MonthNumbered (constants_of system) (years_elapsed (constants_of system) year) number leap k
  pub not_refused : v.refusal ≡ 0
  pub head_is : IsRegisterDay (constants_of system) v.head.0 (month_head (constants_of system) k)
  pub length_is : v.length ≡ month_length (constants_of system) k
  pub nothing_told : v.told ≡ 0

-- Refused SYSTEM, then YEAR, then MONTH, then LEAP with the number of the year's leap month; or answered.
pub data MonthOutcome (system year number leap : ℕ) (v : MonthAnswer) : Type 0 where
  system_refused : (SystemInScope system → ⊥) → v ≡ no_month SYSTEM → MonthOutcome system year number leap v
  year_refused : SystemInScope system → (YearInScope year → ⊥) → v ≡ no_month YEAR → MonthOutcome system year number leap v
  month_refused : InScope system year
      → NoSuchMonth number leap
      → v ≡ no_month MONTH
      → MonthOutcome system year number leap v
  leap_refused : InScope system year
      → (NoSuchMonth number leap → ⊥)
      → NotLeap (constants_of system) (years_elapsed (constants_of system) year) number leap
      → (told : ℕ)
      → LeapNumber (constants_of system) (years_elapsed (constants_of system) year) told
      → v ≡ no_month_telling LEAP told
      → MonthOutcome system year number leap v
  found : MonthFound system year number leap v → MonthOutcome system year number leap v

-- The date of a register day, answered: a year in scope, the month that has the day, by number and leap mark, and the
-- day's place in it.
pub record DateFound (system r : ℕ) (v : DateAnswer) : Type 0 where
  pub in_scope : InScope system v.year
  pub day_in_scope : DayInScope system r
  pub k : ℕ
  pub numbered : MonthNumbered (constants_of system) (years_elapsed (constants_of system) v.year) v.month v.leap k
  pub not_refused : v.refusal ≡ 0
  pub in_month : InMonth (constants_of system) k day_in_scope.day
  pub day_is : v.day ≡ day_in_scope.day - month_head (constants_of system) k + 1

-- Refused SYSTEM, then DAY; or answered.
pub data DateOutcome (system r : ℕ) (v : DateAnswer) : Type 0 where
  system_refused : (SystemInScope system → ⊥) → v ≡ no_date SYSTEM → DateOutcome system r v
  day_refused : SystemInScope system → (DayInScope system r → ⊥) → v ≡ no_date DAY → DateOutcome system r v
  found : DateFound system r v → DateOutcome system r v

-- The pentad in force at the end of a register day, answered: its year, a year in scope between whose solstice days the
-- day lies, and its number.
pub record PentadFound (system r : ℕ) (v : PentadAnswer) : Type 0 where
  pub in_scope : InScope system v.year
  pub day_in_scope : SolarDayInScope system r
  pub not_refused : v.refusal ≡ 0
  pub in_year : InSolarYear (constants_of system) (years_elapsed (constants_of system) v.year) day_in_scope.day
  pub in_force : InForce (constants_of system) day_in_scope.day (years_elapsed (constants_of system) v.year) v.pentad

-- Refused SYSTEM, then DAY; or answered.
pub data PentadOutcome (system r : ℕ) (v : PentadAnswer) : Type 0 where
  system_refused : (SystemInScope system → ⊥) → v ≡ none_in_force SYSTEM → PentadOutcome system r v
  day_refused : SystemInScope system → (SolarDayInScope system r → ⊥) → v ≡ none_in_force DAY → PentadOutcome system r v
  found : PentadFound system r v → PentadOutcome system r v
