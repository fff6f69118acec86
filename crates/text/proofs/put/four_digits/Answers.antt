use native.Mathlib.Omega.{arith}
use Rattle.text.proofs.Decimals.{wrote_four_digits}
use Rattle.text.proofs.put.four_digits.Goals as goal

pub returns : goal.returns
returns c = (search wrote_four_digits, omega arith)
