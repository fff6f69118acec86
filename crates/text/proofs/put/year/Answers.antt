use native.Mathlib.Omega.{arith}
use Rattle.text.proofs.Writing.{wrote_year}
use Rattle.text.proofs.put.year.Goals as goal

pub returns : goal.returns
returns c = (search wrote_year, omega arith)
