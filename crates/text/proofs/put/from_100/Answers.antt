use native.Mathlib.Omega.{arith}
use Rattle.text.proofs.Decimals.{wrote_four, wrote_six, wrote_seven, wrote_eight}
use Rattle.text.proofs.put.from_100.Goals as goal

pub returns-then-n-lt10000 : goal.returns-then-n-lt10000
returns-then-n-lt10000 c = (search wrote_four, omega arith)

pub returns-then-n-lt1000000 : goal.returns-then-n-lt1000000
returns-then-n-lt1000000 c = (search wrote_six, omega arith)

pub returns-then-n-lt10000000 : goal.returns-then-n-lt10000000
returns-then-n-lt10000000 c = (search wrote_seven, omega arith)

pub returns-then-n-lt100000000 : goal.returns-then-n-lt100000000
returns-then-n-lt100000000 c = (search wrote_eight, omega arith)
