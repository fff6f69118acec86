use Prim.Native.Nat.{ℕ}
use mathlib.Core.Path.{◌≡◌, sym, ap, ◌∙◌}
use mathlib.Core.Bool.{Bool}
use native.Mathlib.Omega.{arith}
use Rattle.std.specs.Prelude.{Some}
use Rattle.reckoning.specs.ComputedRefusals.{outside}
use Rattle.framing.proofs.Framed.{no_field, bad_field, too_few, whole}
use Rattle.framing.proofs.next.Goals.{then-s-lt2-via-then-s-lt2, then-s-lt2-via-else-s-lt2+then-s-at}
use Rattle.framing.proofs.next.Goals.{then-outside-via-then-outside, then-outside-via-else-outside+then-s-at-2}
use Rattle.framing.proofs.next.Goals as goal

-- What `outside` answered of the number read, told of the field.
answered : {n field : ℕ} {b v : Bool} → n ≡ field → b ≡ outside 4 64 n → b ≡ v → outside 4 64 field ≡ v
answered read answer known = ap (outside 4 64) (sym read) ∙ sym answer ∙ known

pub returns-then-s-lt2 : goal.returns-then-s-lt2
returns-then-s-lt2 c =
    elim c.then-s-lt2.branch [
      | then-s-lt2-via-then-s-lt2 w ↦ no_field _ _ (omega (arith, w.if-s-lt2.true))
      | then-s-lt2-via-else-s-lt2+then-s-at w ↦ no_field _ _ (omega (arith, w.if-s-lt2.false, w.if-s-at.true))
    ]

pub returns-then-outside : goal.returns-then-outside
returns-then-outside c =
    let read = c.length_at-n.ensures in
    elim c.then-outside.branch [
      | then-outside-via-then-outside w ↦
          bad_field _ _ (omega arith) (answered read c.outside.ensures w.if-outside.true)
      | then-outside-via-else-outside+then-s-at-2 w ↦
          too_few _ _ (omega arith) (answered read c.outside.ensures w.if-outside.false) (omega (arith, w.if-s-at-2.true, read))
    ]

pub returns : goal.returns
returns c =
    let read = c.length_at-n.ensures in
    ap Some read
    ∙ whole _ _ (omega arith)
    (answered read c.outside.ensures c.if-outside.false)
    (omega (arith, c.if-s-at-2.false, read))
