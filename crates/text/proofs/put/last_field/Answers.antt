use native.Mathlib.Omega.{arith}
use Rattle.text.proofs.Writing.{wrote_dash, wrote_last}
use Rattle.text.proofs.put.last_field.Goals as goal

pub returns-in-None : goal.returns-in-None
returns-in-None c = (search wrote_dash, omega arith)

pub returns-in-Some : goal.returns-in-Some
returns-in-Some c = (search wrote_last, omega arith)
