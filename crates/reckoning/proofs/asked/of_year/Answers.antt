use mathlib.Core.Path.{sym}
use Rattle.reckoning.proofs.RefusalCases.{accepted}
use Rattle.reckoning.proofs.asked.of_year.Goals as goal

pub accept-requires : goal.accept-requires
accept-requires c = (accepted _ _ (sym c.in_ok-of_year.ensures)).year_inside
