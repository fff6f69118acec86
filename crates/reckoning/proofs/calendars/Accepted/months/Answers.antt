use Rattle.reckoning.proofs.HeadLaws.{head_asked, head_asked_next, closing_in_register, months_rise, months_listed}
use Rattle.reckoning.proofs.calendars.Accepted.months.Goals as goal

pub first_month_of_year-first-requires : goal.first_month_of_year-first-requires
first_month_of_year-first-requires c = search head_asked

pub first_month_of_year-next-requires : goal.first_month_of_year-next-requires
first_month_of_year-next-requires c = search head_asked_next

pub register_day-closing-requires : goal.register_day-closing-requires
register_day-closing-requires c = search closing_in_register

pub overflow_sub-next : goal.overflow_sub-next
overflow_sub-next c = search months_rise

pub months_from-requires : goal.months_from-requires
months_from-requires c =
    let fits = c.args.self.calendar.fits in
    months_listed fits c.args.self.in_scope c.first_month_of_year-first.ensures c.first_month_of_year-next.ensures c.register_day-closing.ensures
