-- The day that a citation names, by the reckoning: paper 01, "The words of demand 3". A citation, the customer's own
-- term, is a record that names a day.
use Rattle.std.specs.Prelude.{ℕ, ◌≡◌, List}
use Rattle.calendar.specs.declared.data.Constants.{Constants}
use Rattle.calendar.specs.Inside.{Inside}
use Rattle.calendar.specs.Systems.{constants_of, years_elapsed, IsRegisterDay}
use Rattle.calendar.specs.SixtyDayName.{name_of}
use Rattle.calendar.specs.Month.{InMonth, month_length, day_of_month}
use Rattle.calendar.specs.Year.{Span, MonthNumbered, day_of_ordinal}
use Rattle.reckoning.specs.Scope.{InScope}
use Rattle.citation.specs.Record.{kind_of, system_of, year_field, month_field, leap_field, day_field, name_field}
use Rattle.citation.specs.Record.{ordinal_field, register_day_field}

-- The constants of its system, and its year told by years elapsed.
abbrev pub constants_in : List ℕ → Constants
constants_in s = constants_of (system_of s)

abbrev pub elapsed_in : List ℕ → ℕ
elapsed_in s = years_elapsed (constants_in s) (year_field s)

-- Kinds 1 and 5 cite a month of their year by its number and leap mark.
abbrev pub CitedMonth : List ℕ → ℕ → Type 0
CitedMonth s k = MonthNumbered (constants_in s) (elapsed_in s) (month_field s) (leap_field s) k

-- Citation s names register day r.
pub data NamesDay (s : List ℕ) (r : ℕ) : Type 0 where
  -- kind 1, by its place in the month
  by_day : kind_of s ≡ 1
      → (k : ℕ)
      → CitedMonth s k
      → IsRegisterDay (constants_in s) r (day_of_month (constants_in s) k (day_field s))
      → NamesDay s r
  -- kind 5, as the one in the month whose name it is
  by_name : kind_of s ≡ 5
      → (k d : ℕ)
      → CitedMonth s k
      → InMonth (constants_in s) k d
      → IsRegisterDay (constants_in s) r d
      → name_of r ≡ name_field s
      → NamesDay s r
  -- kind 3, by its place in the year
  by_ordinal : kind_of s ≡ 3
      → (y : Span (constants_in s) (elapsed_in s))
      → IsRegisterDay (constants_in s) r (day_of_ordinal y (ordinal_field s))
      → NamesDay s r
  -- kind 4, outright
  by_register_day : kind_of s ≡ 4 → r ≡ register_day_field s → NamesDay s r

-- Register day r is, in a system, day `day` of the month with a number and a leap mark of a year in scope.
pub record OnDate (system r year month leap day : ℕ) : Type 0 where
  pub k : ℕ
  pub in_scope : InScope system year
  pub numbered : MonthNumbered (constants_of system) (years_elapsed (constants_of system) year) month leap k
  pub placed : Inside 1 (month_length (constants_of system) k) day
  pub day_is : IsRegisterDay (constants_of system) r (day_of_month (constants_of system) k day)

-- It has a date there.
pub record Dated (system r : ℕ) : Type 0 where
  pub year : ℕ
  pub month : ℕ
  pub leap : ℕ
  pub day : ℕ
  pub on : OnDate system r year month leap day
