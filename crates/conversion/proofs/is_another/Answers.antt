use mathlib.Core.Path.{ap, ◌∙◌}
use mathlib.Core.Bool.{not}
use native.Mathlib.Omega.{arith}
use lib.Dec.{eqb}
use borrow.Author.Tests.{lt-leb}
use Rattle.conversion.proofs.Cases.{short_not_another, another_by_kind}
use Rattle.conversion.proofs.is_another.Goals as goal

pub returns-then-s-ge4 : goal.returns-then-s-ge4
returns-then-s-ge4 c = ap (λ k. not (eqb k 2)) c.le16.ensures.0 ∙ another_by_kind _ (omega arith)

pub returns-else-s-ge4 : goal.returns-else-s-ge4
returns-else-s-ge4 c = lt-leb 4 _ (omega arith) ∙ short_not_another c.args.s.now (omega arith)
