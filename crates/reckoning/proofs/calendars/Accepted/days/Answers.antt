use Rattle.reckoning.proofs.HeadLaws.{head_asked, head_asked_next, days_between}
use Rattle.reckoning.proofs.calendars.Accepted.days.Goals as goal

pub head_of_year-head-requires : goal.head_of_year-head-requires
head_of_year-head-requires c = search head_asked

pub head_of_year-next-requires : goal.head_of_year-next-requires
head_of_year-next-requires c = search head_asked_next

pub between-requires : goal.between-requires
between-requires c = days_between c.args.self.calendar.fits c.args.self.in_scope c.head_of_year-head.ensures c.head_of_year-next.ensures
