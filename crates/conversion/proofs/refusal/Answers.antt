use mathlib.Core.Path.{sym, ◌∙◌}
use native.Mathlib.Omega.{arith}
use Rattle.conversion.proofs.Cases.{too_short, another_kind, wrong_length, name_refused}
use Rattle.conversion.proofs.refusal.Goals.{then-s-ne10-via-then-s-ne10, then-s-ne10-via-else-s-ne10+then-le16-ne10}
use Rattle.conversion.proofs.refusal.Goals as goal

pub returns-then-s-lt4 : goal.returns-then-s-lt4
returns-then-s-lt4 c = too_short _ c.if-s-lt4.true

pub returns-then-le16-ne2 : goal.returns-then-le16-ne2
returns-then-le16-ne2 c = another_kind _ (omega arith) (λ two. c.if-le16-ne2.true (c.le16.ensures.0 ∙ two))

pub returns-then-s-ne10 : goal.returns-then-s-ne10
returns-then-s-ne10 c =
    let two = sym c.le16.ensures.0 ∙ c.if-le16-ne2.false in
    elim c.then-s-ne10.branch [
      | then-s-ne10-via-then-s-ne10 w ↦ wrong_length _ (omega arith) two (λ field long. w.if-s-ne10.true long)
      | then-s-ne10-via-else-s-ne10+then-le16-ne10 w ↦
          wrong_length _ (omega arith) two (λ field long. w.if-le16-ne10.true (w.le16-else-s-ne10.ensures.0 ∙ field))
    ]

pub returns : goal.returns
returns c =
    name_refused _ c.requires (sym c.le16-else-s-ne10.ensures.0 ∙ c.if-le16-ne10.false) (omega arith)
    (sym c.le16.ensures.0 ∙ c.if-le16-ne2.false)
