use native.Mathlib.Omega.{arith}
use Rattle.text.proofs.Decimals.{wrote_ten}
use Rattle.text.proofs.put.nine_or_ten_digits.Goals as goal

pub returns : goal.returns
returns c = (search wrote_ten, omega arith)
