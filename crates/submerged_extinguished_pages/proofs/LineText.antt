-- The line of a qi or a new moon from its pieces.
use Prim.Native.Nat.{ℕ, ◌+◌, ◌≤◌}
use mathlib.Core.Path.{◌≡◌, ap}
use mathlib.Core.List.{List}
use native.Mathlib.Omega.{arith}
use lib.ListN.{length}
use Rattle.std.proofs.Common.{Option, Some, None}
use Rattle.std.specs.Prelude.{MatchOption, IsSomeAnd}
use Rattle.text.specs.Piece.{field, numbered, last_field}
use Rattle.text.specs.Put.{Put}
use Rattle.text.specs.Wrote.{Wrote}
use Rattle.text.proofs.Writing.{wrote_then}
use Rattle.text.proofs.Putting.{put_wrote}
use Rattle.submerged_extinguished_pages.specs.DistancePages.{distance_line}

-- A distance is the same number in a wider word.
pub widened : {P : ℕ → ℕ → Type 0} (distance wide : Option ℕ) → MatchOption distance (wide ≡ None) (λ x. IsSomeAnd wide (P x))
    → ((x y : ℕ) → P x y → y ≡ x)
    → wide ≡ distance
widened None wide m same = m
widened (Some x) (Some y) m same = ap Some (same x y m)
widened (Some x) None m same = absurd m

pub wrote_line : {b m₁ m₂ a : List ℕ} {at p₁ p₂ e : ℕ} (bytes : List ℕ) (number day : ℕ) (distance : Option ℕ)
    → Put b at (length bytes + 11) (numbered bytes number) m₁ p₁
    → Put m₁ p₁ 11 (field day) m₂ p₂
    → Put m₂ p₂ 12 (last_field distance) a e
    → at + (length bytes + 34) ≤ length b
    → Wrote b at (distance_line bytes number day distance) a e
unfolding distance_line
wrote_line bytes number day distance n d end room =
    let w = put_wrote n (omega arith) in
    let v = put_wrote d (omega (arith, n.near, w.same_length)) in
    wrote_then w (wrote_then v (put_wrote end (omega (arith, n.near, d.near, w.same_length, v.same_length))))
