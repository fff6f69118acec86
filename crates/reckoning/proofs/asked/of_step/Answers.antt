use mathlib.Core.Path.{sym}
use Rattle.reckoning.proofs.RefusalCases.{accepted_step}
use Rattle.reckoning.proofs.asked.of_step.Goals as goal

pub accept-requires : goal.accept-requires
accept-requires c = (accepted_step _ _ _ _ (sym c.in_ok-of_step.ensures)).0.year_inside
