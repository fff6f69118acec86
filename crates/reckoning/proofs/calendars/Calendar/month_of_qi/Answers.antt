use mathlib.Core.Path.{ap, ◌∙◌}
use native.Mathlib.Omega.{arith}
use Rattle.calendar.specs.ClosedForms.{month_of_day}
use Rattle.calendar.proofs.Reckoned.{qi_day_small}
use Rattle.reckoning.specs.MonthSpans.{month_span}
use Rattle.reckoning.proofs.calendars.Calendar.month_of_qi.Goals as goal

pub month_of_day-requires : goal.month_of_day-requires
month_of_day-requires c =
    omega (arith, qi_day_small c.args.self.c c.args.self.fits.constants_fit.consistent c.args.g)

pub returns : goal.returns
returns c =
    let k = c.args.self.c in
    c.month_of_day.ensures ∙ ap (λ d. month_span k (month_of_day k d)) c.day_of_qi.ensures
