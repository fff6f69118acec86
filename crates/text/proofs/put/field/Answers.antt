use native.Mathlib.Omega.{arith}
use Rattle.text.proofs.Writing.{wrote_field}
use Rattle.text.proofs.put.field.Goals as goal

pub returns : goal.returns
returns c = (search wrote_field, omega arith)
