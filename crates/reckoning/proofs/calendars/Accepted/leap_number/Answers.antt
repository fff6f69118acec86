use Rattle.reckoning.proofs.LeapMonthSearch.{told_none, told_number}
use Rattle.reckoning.proofs.calendars.Accepted.leap_number.Goals as goal

pub returns-then-last-ge12 : goal.returns-then-last-ge12
returns-then-last-ge12 c = search told_none

pub returns : goal.returns
returns c = search told_number
