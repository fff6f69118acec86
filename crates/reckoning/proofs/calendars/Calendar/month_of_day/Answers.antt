use Rattle.reckoning.proofs.MonthSpanLaws.{span_of_day}
use Rattle.reckoning.proofs.calendars.Calendar.month_of_day.Goals as goal

pub returns : goal.returns
returns c = search span_of_day
