use native.Mathlib.Omega.{arith}
use Rattle.text.proofs.Writing.{wrote_then}
use Rattle.text.proofs.put.line.Goals as goal

pub returns : goal.returns
returns c = (search wrote_then, omega arith)
