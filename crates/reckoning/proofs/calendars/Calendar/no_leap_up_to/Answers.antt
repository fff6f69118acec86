use Rattle.reckoning.proofs.LeapMonthSearch.{leap_tested}
use Rattle.reckoning.proofs.calendars.Calendar.no_leap_up_to.Goals as goal

pub returns : goal.returns
returns c = search leap_tested
