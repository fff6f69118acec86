-- Two years at one place, as the code has them.
use Rattle.std.specs.Prelude.{ℕ, cond, Option, Some, None}
use Rattle.reckoning.specs.Answers.{YearAnswer}
use Rattle.reckoning.specs.Requests.{as_register_day}
use Rattle.reckoning.specs.YearValue.{head_in, number_in, leap_in}
use Rattle.comparison.specs.declared.data.Difference.{Difference}
use Rattle.comparison.specs.declared.places.Month.{Month}
use Rattle.comparison.specs.Comparisons.{has_month, is_listed, difference_at}

-- The month of a year at index i, from 0, if the year has one there.
abbrev pub month_in : YearAnswer → ℕ → Month
month_in v i = record { number = number_in v i; leap = leap_in v i; head = as_register_day (head_in v i) }

abbrev pub month_at : YearAnswer → ℕ → Option Month
month_at v i = cond (has_month v i) (Some (month_in v i)) None

-- How two years differ there, if the place is listed.
abbrev pub difference_told : YearAnswer → YearAnswer → ℕ → Option Difference
difference_told first second i = cond (is_listed first second i) (Some (difference_at first second i)) None
