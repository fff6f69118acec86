-- Quotients rounded once: they keep to either side of a fraction that a float is exactly.
use Prim.Native.Nat.{ℕ, suc, ◌+◌, ◌*◌, ◌^◌, ◌≤◌, ◌<◌}
use mathlib.Core.Path.{◌≡◌, sym, ap, subst, ◌∙◌}
use mathlib.Core.Bool.{Bool, true, false, cond, true≢false}
use native.Mathlib.Nat.{le_of_eq, mul-pos, zero-mul}
use native.Mathlib.Omega.{arith}
use lib.Dec.{T, ltb}
use borrow.Author.Tests.{ne_eqb}
use lib.Ieee.{Float, nan, inf, fin, Format, binary64, prec, low, emax, up, down, units, odd, round, of_int, div, le}
use lib.Ieee.Fits.{round_is, down_pos}
use lib.Ieee.Exact.{HasValue, odd_sign}
use lib.Ieee.Back.{round_whole}
use lib.Ieee.Order.{round_mono, kept, drop}
use lib.Ieee.Positive.{num, den, den_pos, value→cross, through}
use lib.Ieee.Scale.{round_same}
use Rattle.day_fraction.specs.Fraction.{fraction_of}
use Rattle.day_fraction.proofs.Sizes.{is_size, le→sizes}

-- The float nearest to a / b.
abbrev pub rounded : ℕ → ℕ → Float
rounded a b = round binary64 false a b

-- a / b is a float.
abbrev pub Exact : ℕ → ℕ → Type 0
Exact a b = HasValue (rounded a b) false a b

pub size_of_value : (x : Float) (a c : ℕ) → HasValue x false a c → T (is_size x)
size_of_value nan a c v = absurd v
size_of_value (inf s) a c v = absurd v
size_of_value (fin true m e) a c v = absurd (true≢false v.0)
size_of_value (fin false m e) a c v = tt

-- What is not above something finite is finite.
no_infinity : (y : Float) → T (is_size y) → T (le (inf false) y) → ⊥
unfolding le
no_infinity nan q h = q
no_infinity (inf s) q h = q
no_infinity (fin s m e) q h = h

units_size : (f : Format) (q k : ℕ) (y : Float) → T (is_size y) → T (le (units f false q k) y) → T (is_size (units f false q k))
unfolding units
units_size f q k y s = go (ltb (q * 2 ^ k) (2 ^ (low f + suc (emax f))))
  where
    go : (b : Bool) → T (le (cond b (odd (suc (prec f)) false q k (low f)) (inf false)) y)
        → T (is_size (cond b (odd (suc (prec f)) false q k (low f)) (inf false)))
    go true h = size_of_value (odd (suc (prec f)) false q k (low f)) (q * 2 ^ k) (2 ^ low f) (odd_sign (suc (prec f)) false q k (low f))
    go false h = absurd (no_infinity y s h)

pub whole : (n : ℕ) → n ≤ 2 ^ 53 → Exact n 1
whole n h = round_whole binary64 false n h

-- A quotient up to a whole number that is a float is rounded to a finite float.
pub rounded_size : (a b n : ℕ) → 0 < b → n ≤ 2 ^ 53 → a ≤ n * b → T (is_size (rounded a b))
rounded_size a b n some small h =
    let y = rounded n 1 in
    let s = size_of_value y n 1 (whole n small) in
    let l : T (le (rounded a b) y) = round_mono binary64 a b n 1 some (omega arith) (omega arith) in
    let k = drop (prec binary64) (a * 2 ^ low binary64) b in
    let q = kept (prec binary64) (a * 2 ^ low binary64) b in
    subst (λ x. T (is_size x)) (sym (round_is binary64 false a b))
    (units_size binary64 q k y s (subst (λ x. T (le x y)) (round_is binary64 false a b) l))

-- c / d beside a / b, which is a float: rounded, it is on the same side.
module _ (c d a b : ℕ) (d_some : 0 < d) (b_some : 0 < b) (finite : T (is_size (rounded c d))) (exact : Exact a b) where
  abbrev x : Float
  x = rounded c d

  abbrev y : Float
  y = rounded a b

  y_size : T (is_size y)
  y_size = size_of_value y a b exact

  pub at_most : c * b ≤ a * d → num x * b ≤ a * den x
  at_most h =
      through (num x) (num y) a (den x) (den y) b (den_pos y)
      (le→sizes x y finite y_size (round_mono binary64 c d a b d_some b_some h))
      (le_of_eq (value→cross y a b exact))

  pub at_least : a * d ≤ c * b → a * den x ≤ num x * b
  at_least h =
      through a (num y) (num x) b (den y) (den x) (den_pos y)
      (le_of_eq (sym (value→cross y a b exact)))
      (le→sizes y x y_size finite (round_mono binary64 a b c d b_some d_some h))

-- A quotient of floats that are whole numbers.
div_is : (x y : Float) (a b : ℕ) → HasValue x false a 1 → HasValue y false b 1 → 0 < b → div binary64 x y ≡ rounded a b
unfolding div
div_is nan y a b v w some = absurd v
div_is (inf s) y a b v w some = absurd v
div_is (fin s m e) nan a b v w some = absurd w
div_is (fin s m e) (inf t) a b v w some = absurd w
div_is (fin true m e) (fin t n d) a b v w some = absurd (true≢false v.0)
div_is (fin false m e) (fin true n d) a b v w some = absurd (true≢false w.0)
div_is (fin false m e) (fin false n d) a b v w some =
    let divisor = mul-pos some (down_pos d) in
    let there : n ≡ 0 → ⊥ = λ z. omega (arith, w.1, ap (λ k. k * up d) z, zero-mul (up d)) in
    simp (ne_eqb n 0 there)
    (round_same binary64 false (m * up e * down d) (n * up d * down e) a b
    (mul-pos (omega (arith, w.1)) (down_pos e))
    some
    (crossed (m * up e) (down e) (n * up d) (down d) a b (omega (arith, v.1)) (omega (arith, w.1))))
  where
    crossed : (x p y q a b : ℕ) → x ≡ a * p → y ≡ b * q → x * q * b ≡ a * (y * p)
    crossed x p y q a b is js =
        let same : a * p * q * b ≡ a * (b * q * p) = omega arith in
        ap (λ z. z * q * b) is ∙ same ∙ ap (λ z. a * (z * p)) (sym js)

-- "Rounded once": the exported fraction is the float nearest to the exact quotient.
pub fraction_is : (day parts : ℕ) → 0 < day → day ≤ 2 ^ 53 → parts ≤ 2 ^ 53 → fraction_of day parts ≡ rounded parts day
unfolding of_int
fraction_is day parts some small few =
    div_is (rounded parts 1) (rounded day 1) parts day (whole parts few) (whole day small) some
