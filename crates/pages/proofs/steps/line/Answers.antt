use native.Mathlib.Omega.{arith}
use Rattle.reckoning.specs.Told.{moment_answered}
use Rattle.pages.proofs.StepText.{wrote_step}
use Rattle.pages.proofs.steps.line.Goals as goal

pub returns : goal.returns
returns c = wrote_step _ _ (moment_answered c.args.moment) c.numbers-numbers.ensures c.line.ensures (omega arith) (omega arith)
