use native.Mathlib.Omega.{arith}
use Rattle.reckoning.proofs.MonthSpanLaws.{place_from, place_fits, day_span_fits}
use Rattle.reckoning.proofs.OrdinalRequest.{day_small, qi_from, ordinal_past, ordinal_in_register, ordinal_found}
use Rattle.reckoning.proofs.calendars.Accepted.day_counted.Goals as goal

pub last_qi-last-requires : goal.last_qi-last-requires
last_qi-last-requires c =
    let asked = c.args.self in
    let pre = c.requires in
    let fits = asked.calendar.fits in
    let small = day_small fits asked.in_scope pre.0 pre.1 c.years_elapsed-n.ensures c.count_day.ensures (omega arith) in
    day_span_fits fits.constants_fit _ (omega (arith, small)) c.month_of_day-m.ensures

pub overflow_sub-j : goal.overflow_sub-j
overflow_sub-j c = search qi_from

pub returns-then-j-ge12 : goal.returns-then-j-ge12
returns-then-j-ge12 c = search ordinal_past

pub overflow_sub-place : goal.overflow_sub-place
overflow_sub-place c = place_from c.args.self.calendar.fits.constants_fit _ c.month_of_day-m.ensures

pub overflow_cast-place : goal.overflow_cast-place
overflow_cast-place c = place_fits c.args.self.calendar.fits.constants_fit _ c.month_of_day-m.ensures

pub register_day-requires : goal.register_day-requires
register_day-requires c = search ordinal_in_register

pub returns : goal.returns
returns c = search ordinal_found
