use native.Mathlib.Omega.{arith}
use Rattle.text.proofs.Writing.{wrote_title}
use Rattle.text.proofs.put.title.Goals as goal

pub returns : goal.returns
returns c = (search wrote_title, omega arith)
