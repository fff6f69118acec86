-- Ten bytes at the front of an output.
use Prim.Native.Nat.{ℕ, zero, suc, ◌+◌, ◌≤◌, ◌<◌}
use mathlib.Core.Path.{◌≡◌, sym, ap, ◌∙◌}
use mathlib.Core.Bool.{true, false, cond}
use mathlib.Core.List.{List, [], ◌∷◌, ◌++◌}
use native.Mathlib.Omega.{arith}
use lib.ListN.{length, get_or, drop, drop_of_length-le}
use lib.Seq.{drop-cons}
use lib.Dec.{leb}
use borrow.Author.Tests.{le-leb, lt-leb, leb-true, leb-false}
use Rattle.citation.specs.Output.{record_into}

-- The elements of a list from place i on, n of them.
unfoldable pub elements : List ℕ → ℕ → ℕ → List ℕ
elements l i zero = []
elements l i (suc n) = get_or l i 0 ∷ elements l (suc i) n

elements_drop : (l : List ℕ) (n i : ℕ) → i + n ≡ length l → drop i l ≡ elements l i n
unfolding elements
elements_drop l zero i e = drop_of_length-le l {i = i} (omega arith)
elements_drop l (suc n) i e = drop-cons l i 0 (omega arith) ∙ ap (λ t. get_or l i 0 ∷ t) (elements_drop l n (suc i) (omega arith))

pub elements_all : (l : List ℕ) (n : ℕ) → n ≡ length l → l ≡ elements l 0 n
elements_all l n e = elements_drop l n 0 (omega arith)

-- Where there is room for them, and where there is not.
module _ (l r : List ℕ) where
  pub put_with_room : 10 ≤ length l → r ++ drop 10 l ≡ record_into r l
  unfolding record_into
  put_with_room h = ap (λ b. cond b (r ++ drop 10 l) l) (sym (le-leb 10 (length l) h))

  pub put_without_room : length l < 10 → l ≡ record_into r l
  unfolding record_into
  put_without_room h = ap (λ b. cond b (r ++ drop 10 l) l) (sym (lt-leb 10 (length l) h))

  -- what was written, by the answer
  pub put_true : leb 10 (length l) ≡ true → (10 ≤ length l) × (record_into r l ≡ r ++ drop 10 l)
  unfolding record_into
  put_true e = (leb-true 10 (length l) e, ap (λ b. cond b (r ++ drop 10 l) l) e)

  pub put_false : leb 10 (length l) ≡ false → (length l < 10) × (record_into r l ≡ l)
  unfolding record_into
  put_false e = (leb-false 10 (length l) e, ap (λ b. cond b (r ++ drop 10 l) l) e)
