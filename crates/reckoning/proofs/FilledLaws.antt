-- Filling a list from its first place on, and reading it.
use Prim.Native.Nat.{ℕ, zero, suc, ◌+◌, ◌≤◌, ◌<◌}
use mathlib.Core.Path.{◌≡◌, refl, ◌∙◌}
use mathlib.Core.List.{List}
use native.Mathlib.Numerals.{add-one}
use native.Mathlib.Omega.{arith}
use lib.ListN.{set, length, get_or, replicate, length-set}
use lib.Seq.{get_or-set_same, get_or-set_other}
use Rattle.calendar.proofs.Rising.{by_order}
use Rattle.reckoning.specs.Filled.{filled}

module _ {A : Type 0} (f : ℕ → A) (d : List A) where
  pub filled_none : d ≡ filled f d 0
  unfolding filled
  filled_none = refl

  pub filled_more : (n : ℕ) (l : List A) (x : A) → l ≡ filled f d n → x ≡ f n → set l n x ≡ filled f d (n + 1)
  unfolding filled
  filled_more n l x p q = rw (add-one, p, q)

  pub filled_length : (n : ℕ) → length (filled f d n) ≡ length d
  unfolding filled
  filled_length zero = refl
  filled_length (suc n) = length-set (filled f d n) n (f n) ∙ filled_length n

  -- the first n places hold f, the others what they held
  pub filled_below : (z : A) (n i : ℕ) → i < n → n ≤ length d → get_or (filled f d n) i z ≡ f i
  unfolding filled
  filled_below z zero i h l = absurd (omega arith)
  filled_below z (suc n) i h l =
      by_order i n
      (λ b. get_or-set_other (filled f d n) n i (f n) z (omega arith) ∙ filled_below z n i b (omega arith))
      (λ b.
      let e : i ≡ n = omega arith in
      rw e (get_or-set_same (filled f d n) n (f n) z (omega (arith, filled_length n))))

  pub filled_past : (z : A) (n i : ℕ) → n ≤ i → get_or (filled f d n) i z ≡ get_or d i z
  unfolding filled
  filled_past z zero i h = refl
  filled_past z (suc n) i h =
      get_or-set_other (filled f d n) n i (f n) z (omega arith) ∙ filled_past z n i (omega arith)

-- A list of one element reads so everywhere, also past its end.
pub replicate_reads : {A : Type 0} (a : A) (n i : ℕ) → get_or (replicate n a) i a ≡ a
replicate_reads a zero i = refl
replicate_reads a (suc n) zero = refl
replicate_reads a (suc n) (suc i) = replicate_reads a n i
