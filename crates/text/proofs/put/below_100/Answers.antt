use native.Mathlib.Omega.{arith}
use Rattle.text.proofs.Decimals.{wrote_small}
use Rattle.text.proofs.put.below_100.Goals as goal

pub returns : goal.returns
returns c = (search wrote_small, omega arith)
