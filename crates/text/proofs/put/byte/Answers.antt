use native.Mathlib.Omega.{arith}
use Rattle.text.proofs.Writing.{wrote_byte}
use Rattle.text.proofs.put.byte.Goals as goal

pub returns : goal.returns
returns c = (wrote_byte _ _ _ (omega arith), omega arith)
