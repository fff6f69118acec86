use Rattle.reckoning.proofs.MonthSpanLaws.{last_ordinary, last_leap_lem}
use Rattle.reckoning.proofs.calendars.Calendar.last_qi.Goals as goal

pub returns-then-last-length : goal.returns-then-last-length
returns-then-last-length c = search last_ordinary

pub returns : goal.returns
returns c = search last_leap_lem
