use native.Mathlib.Omega.{arith}
use Rattle.reckoning.proofs.MonthSpanLaws.{place_from, place_fits, day_span_fits}
use Rattle.reckoning.proofs.DateRequest.{date_before, date_outside, date_inside}
use Rattle.reckoning.proofs.calendars.Calendar.date.Goals as goal

pub returns-then-before_epoch : goal.returns-then-before_epoch
returns-then-before_epoch c = search date_before

pub last_qi-last-requires : goal.last_qi-last-requires
last_qi-last-requires c = day_span_fits c.args.self.fits.constants_fit _ (omega arith) c.month_of_day-m.ensures

pub returns-then-out_of_scope : goal.returns-then-out_of_scope
returns-then-out_of_scope c = search date_outside

pub overflow_sub-place : goal.overflow_sub-place
overflow_sub-place c = search place_from

pub overflow_cast-place : goal.overflow_cast-place
overflow_cast-place c = search place_fits

pub returns : goal.returns
returns c = search date_inside
