use native.Mathlib.Omega.{arith}
use Rattle.text.proofs.Writing.{wrote_field}
use Rattle.text.proofs.put.small_field.Goals as goal

pub returns-then-n-lt100 : goal.returns-then-n-lt100
returns-then-n-lt100 c = (search wrote_field, omega arith)
