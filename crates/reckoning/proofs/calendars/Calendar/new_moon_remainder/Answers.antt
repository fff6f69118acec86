use Rattle.reckoning.proofs.MonthSpanLaws.{remainder_is}
use Rattle.reckoning.proofs.calendars.Calendar.new_moon_remainder.Goals as goal

pub returns : goal.returns
returns c = search remainder_is
