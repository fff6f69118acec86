use native.Mathlib.Omega.{arith}
use Rattle.text.proofs.Writing.{wrote_month}
use Rattle.text.proofs.put.month.Goals as goal

pub returns : goal.returns
returns c = (search wrote_month, omega arith)
