use native.Mathlib.Omega.{arith}
use Rattle.text.proofs.Writing.{wrote_no_star, wrote_star}
use Rattle.text.proofs.put.star.Goals as goal

pub returns-then-leap-eq0 : goal.returns-then-leap-eq0
returns-then-leap-eq0 c = (wrote_no_star _ c.if-leap-eq0.true (omega arith), omega arith)

pub returns : goal.returns
returns c = (search wrote_star, omega arith)
