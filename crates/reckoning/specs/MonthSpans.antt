-- Months as the code has them: with their bounds, and with what their last middle qi tells.
use Rattle.std.specs.Prelude.{ℕ, ◌+◌}
use Rattle.calendar.specs.declared.data.Constants.{Constants}
use Rattle.calendar.specs.Month.{month_head}
use Rattle.calendar.specs.ClosedForms.{qi_of_month, leap_mark}
use Rattle.reckoning.specs.declared.month_spans.MonthSpan.{MonthSpan}
use Rattle.reckoning.specs.declared.month_spans.LastQi.{LastQi}

-- Month k, its head and the next month's.
abbrev pub month_span : Constants → ℕ → MonthSpan
month_span c k = record { month = k; head = month_head c k; next = month_head c (k + 1) }

-- The last middle qi on a day of month k or earlier, and the month's leap mark.
abbrev pub last_qi : Constants → ℕ → LastQi
last_qi c k = record { qi = qi_of_month c k; leap = leap_mark c k }
