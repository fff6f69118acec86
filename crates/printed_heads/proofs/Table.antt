-- A test over a whole table, and what it says of each entry.
use Prim.Native.Nat.{ℕ, zero, suc, ◌+◌, ◌<◌}
use mathlib.Core.Path.{◌≡◌, ap, ◌∙◌}
use mathlib.Core.Bool.{Bool, true, ◌&&◌}
use mathlib.Core.List.{List, [], ◌∷◌}
use native.Mathlib.Nat.{not-suc-le-zero}
use native.Mathlib.Omega.{arith}
use lib.ListN.{length, get_or}
use Rattle.calendar.proofs.Cases.{both}

module _ (test : ℕ → ℕ → Bool) where
  -- Each entry passes the test with its place, the first with i.
  abbrev pub all : ℕ → List ℕ → Bool
  all i [] = true
  all i (x ∷ xs) = test i x && all (i + 1) xs

  pub each : (i : ℕ) (xs : List ℕ) → all i xs ≡ true → (k : ℕ) → k < length xs → test (i + k) (get_or xs k 0) ≡ true
  each i [] t k h = absurd (not-suc-le-zero h)
  each i (x ∷ xs) t zero h =
      let same : i + 0 ≡ i = omega arith in
      ap (λ n. test n x) same ∙ (both (test i x) (all (i + 1) xs) t).0
  each i (x ∷ xs) t (suc k) h =
      let same : i + suc k ≡ i + 1 + k = omega arith in
      ap (λ n. test n (get_or xs k 0)) same ∙ each (i + 1) xs (both (test i x) (all (i + 1) xs) t).1 k (omega arith)
