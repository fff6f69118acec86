use native.Mathlib.Omega.{arith}
use Rattle.text.proofs.Decimals.{wrote_two}
use Rattle.text.proofs.put.two_digits.Goals as goal

pub returns : goal.returns
returns c = (wrote_two _ (omega arith) (omega arith) c.pair.ensures.0, omega arith)
