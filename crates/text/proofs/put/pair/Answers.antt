use native.Mathlib.Omega.{arith}
use Rattle.text.proofs.Writing.{wrote_pair}
use Rattle.text.proofs.put.pair.Goals as goal

pub returns : goal.returns
returns c = (wrote_pair _ _ _ _ _ c.requires.0 c.requires.1, omega arith)
