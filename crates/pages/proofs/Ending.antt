-- How the writing of a page ends.
use Prim.Native.Nat.{ℕ, ◌+◌, ◌≤◌}
use mathlib.Core.Path.{◌≡◌, subst, sym}
use mathlib.Core.List.{List, ◌++◌}
use native.Mathlib.Omega.{arith}
use lib.ListN.{length}
use borrow.Author.Tests.{eq-eqb, ne_eqb}
use Rattle.std.specs.Prelude.{Result, Ok, Err, IsOkAnd, MatchResult}
use Rattle.reckoning.specs.declared.refusal.Refusal.{Refusal}
use Rattle.reckoning.specs.RefusalNumbers.{number_of}
use Rattle.text.specs.Piece.{refused_line, told_unless}
use Rattle.text.specs.Put.{Put}
use Rattle.text.specs.Wrote.{Wrote}
use Rattle.text.proofs.Writing.{wrote_then}
use Rattle.text.proofs.Putting.{put_wrote}
use Rattle.pages.specs.PageEnds.{Ends}

-- What is told of the answer that was asked for, by the answer that was got.
module _ {A : Type 0} (refusal : A → ℕ) (text : A → List ℕ) {got asked : A} (is : got ≡ asked) where
  pub told_refused : (refusal got ≡ 0 → ⊥) → told_unless (refusal asked) (text asked) ≡ refused_line (refusal got)
  told_refused some =
      subst (λ v. told_unless (refusal v) (text v) ≡ refused_line (refusal got)) is (simp (ne_eqb (refusal got) 0 some))

  pub told_answered : refusal got ≡ 0 → text got ≡ told_unless (refusal asked) (text asked)
  told_answered none =
      subst (λ v. text got ≡ told_unless (refusal v) (text v)) is (simp (eq-eqb (refusal got) 0 none))

-- A text that was written is the page's,
pub ends_written : {x text : List ℕ} (b a : List ℕ) (at room : ℕ) (r : Result ℕ Refusal)
    → IsOkAnd r (λ end. Wrote b at x a end × (end ≤ at + room))
    → x ≡ text
    → Ends b at room text a r
ends_written b a at room (Ok end) w is = (subst (λ t. Wrote b at t a end) is w.0, w.1)
ends_written b a at room (Err refusal) w is = absurd w

-- or with a first line before it.
pub ends_after : {b x m text : List ℕ} {at p room first : ℕ} (y a : List ℕ) (rest : ℕ) (r : Result ℕ Refusal) → Put b at first x m p
    → at + room ≤ length b
    → first + rest ≤ room
    → IsOkAnd r (λ end. Wrote m p y a end × (end ≤ p + rest))
    → x ++ y ≡ text
    → Ends b at room text a r
ends_after {b = b} {at = at} y a rest (Ok end) q there enough w is =
    (subst (λ t. Wrote b at t a end) is (wrote_then (put_wrote q (omega arith)) w.0), omega (arith, q.near, w.1))
ends_after y a rest (Err refusal) q there enough w is = absurd w

-- With the line of its refusal where it has one, the page is written.
pub wrote_or_refused : {b a text : List ℕ} {at room e : ℕ} (m : List ℕ) (r : Result ℕ Refusal) → Ends b at room text m r
    → MatchResult r (λ end. (a ≡ m) × (e ≡ end)) (λ refusal. Put m at 19 (refused_line (number_of refusal)) a e)
    → 19 ≤ room
    → at + room ≤ length b
    → Wrote b at text a e × (e ≤ at + room)
wrote_or_refused {b = b} {text = text} {at = at} {room = room} {e = e} m (Ok end) w left enough there =
    subst (λ l. Wrote b at text l e × (e ≤ at + room)) (sym left.0)
    (subst (λ p. Wrote b at text m p × (p ≤ at + room)) (sym left.1) w)
wrote_or_refused {b = b} {a = a} {at = at} {e = e} m (Err refusal) w put enough there =
    let line = subst (λ l. Put l at 19 (refused_line (number_of refusal)) a e) w.0 put in
    (subst (λ t. Wrote b at t a e) (sym w.1) (put_wrote line (omega arith)), omega (arith, line.near))
