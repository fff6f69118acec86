use native.Mathlib.Omega.{arith}
use Rattle.text.proofs.Writing.{wrote_numbered}
use Rattle.text.proofs.put.numbered.Goals as goal

pub returns : goal.returns
returns c = (search wrote_numbered, omega arith)
