use Rattle.reckoning.proofs.MonthSpanLaws.{length_fits_byte}
use Rattle.reckoning.proofs.calendars.Calendar.month_at.Goals as goal

pub overflow_cast-length : goal.overflow_cast-length
overflow_cast-length c = search length_fits_byte
