use mathlib.Core.Path.{◌≡◌, ap, sym, ◌∙◌}
use native.Mathlib.Omega.{arith}
use Rattle.reckoning.specs.ComputedRefusals.{outside}
use Rattle.reckoning.proofs.RefusalCases.{inside_of, not_inside}
use Rattle.citation.specs.Record.{kind_of}
use Rattle.citation.proofs.WholeRecord.{too_short, wrong_kind, retired_kind, length_wrong, wrong_length}
use Rattle.citation.proofs.judge.frame_refusal.Goals as goal
use Rattle.citation.proofs.judge.frame_refusal.Goals.{After-outside, Else-outside}

pub returns-then-s-lt4 : goal.returns-then-s-lt4
returns-then-s-lt4 c = too_short _ c.if-s-lt4.true

pub returns-then-outside : goal.returns-then-outside
returns-then-outside c =
    let out = not_inside 1 5 _ (sym ((c.outside.ensures ∙ ap (outside 1 5) c.le16-kind.ensures.0)) ∙ c.if-outside.true) in
    wrong_kind _ (omega arith) out

pub returns-then-kind-eq2 : goal.returns-then-kind-eq2
returns-then-kind-eq2 c =
    retired_kind _ (omega arith) ((inside_of 1 5 _ (sym ((c.outside.ensures ∙ ap (outside 1 5) c.le16-kind.ensures.0)) ∙ c.if-outside.false))) (sym c.le16-kind.ensures.0 ∙ c.if-kind-eq2.true)

pub returns : goal.returns
returns c =
    let k = (inside_of 1 5 _ (sym ((c.outside.ensures ∙ ap (outside 1 5) c.le16-kind.ensures.0)) ∙ c.if-outside.false)) in
    let not_two : kind_of c.args.s.now ≡ 2 → ⊥ = λ two. c.if-kind-eq2.false (c.le16-kind.ensures.0 ∙ two) in
    wrong_length _ (omega arith) k not_two (length_wrong _ c.requires (k, not_two))
