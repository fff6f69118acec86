use Rattle.reckoning.proofs.LeapMonthSearch.{from_first}
use Rattle.reckoning.proofs.calendars.Calendar.last_before_leap.Goals as goal

pub halved-b-requires : goal.halved-b-requires
halved-b-requires c = search from_first
