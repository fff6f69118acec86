-- Floats below zero, by their bit patterns.
use Prim.Native.Nat.{ℕ, zero, suc, ◌+◌, ◌*◌, ◌-◌, ◌/◌, ◌%◌, ◌^◌}
use mathlib.Core.Path.{◌≡◌, refl, sym, ap, subst, ◌∙◌}
use mathlib.Core.Bool.{Bool, true, false, true≢false, cond}
use native.Mathlib.Nat.{zero-mul, div-le_self}
use native.Mathlib.Omega.{arith}
use native.Mathlib.Decide.{dec_lt}
use lib.Dec.{T, leb, eqb}
use lib.IntN.{ℤ}
use lib.Ieee.{Float, nan, inf, fin, binary64, up, down, size, odd, of_fields, fits, is_nan, of_bits, to_bits, le}
use lib.Ieee.Bits.{is_true, of_bits-to_bits}
use borrow.Author.Tests.{lt-leb, le-leb, ne_eqb}
use Rattle.day_fraction.specs.Fraction.{zero_float}
use Rattle.day_fraction.proofs.Sizes.{some_digits, not_below_zero}

-- A float with a sign, or what is not a number.
abbrev HasSign : Bool → Float → Type 0
HasSign s nan = Unit {0}
HasSign s (inf t) = t ≡ s
HasSign s (fin t m e) = t ≡ s

odd_has_sign : (d : ℕ) (s : Bool) (q k l : ℕ) → HasSign s (odd d s q k l)
unfolding odd
odd_has_sign d s zero k l = refl
odd_has_sign d s (suc q) k l = refl

picked_has_sign : (s a b : Bool) (v : Float) → HasSign s v → HasSign s (cond a (cond b (inf s) nan) v)
picked_has_sign s true true v h = refl
picked_has_sign s true false v h = tt
picked_has_sign s false b v h = h

fields_have_sign : (s : Bool) (x t : ℕ) → HasSign s (of_fields binary64 s x t)
unfolding of_fields
fields_have_sign s zero t = odd_has_sign 53 s t 0 1074
fields_have_sign s (suc x) t =
    picked_has_sign s (eqb (suc x) 2_047) (eqb t 0) (odd 53 s (2 ^ 52 + t) x 1074) (odd_has_sign 53 s (2 ^ 52 + t) x 1074)

-- The sign is the highest of 64 bits.
pattern_has_sign : (pattern : ℕ) → HasSign (leb (2 ^ 63) pattern) (of_bits binary64 pattern)
unfolding of_bits
pattern_has_sign pattern = fields_have_sign (leb (2 ^ 63) pattern) (pattern % 2 ^ 63 / 2 ^ 52) (pattern % 2 ^ 52)

-- A float without the sign is not below zero;
unsigned : (f : Float) → HasSign false f → is_nan f ≡ false → le zero_float f ≡ true
unfolding is_nan le
unsigned nan h n = absurd (true≢false n)
unsigned (inf true) h n = absurd (true≢false h)
unsigned (inf false) h n = refl
unsigned (fin true m e) h n = absurd (true≢false h)
unsigned (fin false m e) h n =
    is_true (le zero_float (fin false m e)) (not_below_zero (fin false m e) tt)

-- one with the sign is, but for negative zero.
zero_pattern : (e : ℤ) → to_bits binary64 (fin true 0 e) ≡ 2 ^ 63
unfolding to_bits
zero_pattern e =
    let gone : 0 / down e ≡ 0 = omega (arith, div-le_self 0 (down e)) in
    let none : 0 * up e * 2 ^ 1074 / down e ≡ 0 = ap (λ i. i * 2 ^ 1074 / down e) (zero-mul (up e)) ∙ gone in
    ap (λ n. 2 ^ 63 + (size n - 53) * 2 ^ 52 + n / 2 ^ (size n - 53)) none

signed : (f : Float) → HasSign true f → (to_bits binary64 f ≡ 2 ^ 63 → ⊥) → le zero_float f ≡ false
unfolding le
signed nan h other = refl
signed (inf true) h other = refl
signed (inf false) h other = absurd (true≢false (sym h))
signed (fin false m e) h other = absurd (true≢false (sym h))
signed (fin true zero e) h other = absurd (other (zero_pattern e))
signed (fin true (suc m) e) h other =
    let some = some_digits m e in
    simp (ne_eqb (0 * 1 * down e) (suc m * up e * 1) (λ is. omega (arith, zero-mul (down e))))

zero_at_least : le zero_float (of_bits binary64 (2 ^ 63)) ≡ true
unfolding of_bits le
zero_at_least = refl

-- So no pattern of a float that is not below zero is above that of negative zero, and every other is.
pub by_pattern : (f : Float) → T (fits binary64 f) → is_nan f ≡ false → leb (to_bits binary64 f) (2 ^ 63) ≡ le zero_float f
by_pattern f t number =
    elim (dec_lt p (2 ^ 63)) [
      | yes l ↦ le-leb p (2 ^ 63) (omega arith) ∙ sym (unsigned f (signs (lt-leb (2 ^ 63) p l)) number)
      | no l ↦
          elim (dec_lt (2 ^ 63) p) [
            | yes g ↦ lt-leb p (2 ^ 63) g ∙ sym (signed f (signs (le-leb (2 ^ 63) p (omega arith))) (λ is. omega arith))
            | no g ↦
                let is : p ≡ 2 ^ 63 = omega arith in
                le-leb p (2 ^ 63) (omega arith)
                ∙ sym (ap (le zero_float) (sym back ∙ ap (of_bits binary64) is) ∙ zero_at_least)
          ]
    ]
  where
    p : ℕ
    p = to_bits binary64 f

    back : of_bits binary64 p ≡ f
    back = of_bits-to_bits binary64 f t

    signs : {s : Bool} → leb (2 ^ 63) p ≡ s → HasSign s f
    signs {s} is = subst (HasSign s) back (subst (λ s. HasSign s (of_bits binary64 p)) is (pattern_has_sign p))
