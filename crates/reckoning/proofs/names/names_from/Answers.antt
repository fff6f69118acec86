use Rattle.reckoning.proofs.FilledLaws.{filled_none, filled_more}
use Rattle.reckoning.proofs.names.names_from.Goals as goal

pub loop-i-init : goal.loop-i-init
loop-i-init c = filled_none _ _

pub loop-i-preserved : goal.loop-i-preserved
loop-i-preserved c = filled_more _ _ _ _ _ c.loop-i.invariant c.name_of.ensures
