use mathlib.Core.Path.{sym, ◌∙◌}
use native.Mathlib.Omega.{arith}
use Rattle.conversion.proofs.Cases.{is_not, is_by_name}
use Rattle.conversion.proofs.is_convertible.Goals.{then-s-ne10-via-then-s-ne10, then-s-ne10-via-else-s-ne10+then-le16-ne10}
use Rattle.conversion.proofs.is_convertible.Goals.{then-s-ne10-via-else-s-ne10+else-le16-ne10+then-le16-ne2}
use Rattle.conversion.proofs.is_convertible.Goals as goal

pub returns-then-s-ne10 : goal.returns-then-s-ne10
returns-then-s-ne10 c =
    elim c.then-s-ne10.branch [
      | then-s-ne10-via-then-s-ne10 w ↦ is_not _ (λ old. w.if-s-ne10.true old.long)
      | then-s-ne10-via-else-s-ne10+then-le16-ne10 w ↦
          is_not _ (λ old. w.if-le16-ne10.true (w.le16.ensures.0 ∙ old.field))
      | then-s-ne10-via-else-s-ne10+else-le16-ne10+then-le16-ne2 w ↦
          is_not _ (λ old. w.if-le16-ne2.true (w.le16-else-le16-ne10.ensures.0 ∙ old.two))
    ]

pub returns : goal.returns
returns c =
    is_by_name _ (sym c.le16.ensures.0 ∙ c.if-le16-ne10.false) (omega arith)
    (sym c.le16-else-le16-ne10.ensures.0 ∙ c.if-le16-ne2.false)
