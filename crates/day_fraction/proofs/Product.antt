-- A fraction of a day times the parts in a day, rounded: it lies between the count that the fraction is cut down to and the
-- next.
use Prim.Native.Nat.{ℕ, zero, suc, ◌+◌, ◌*◌, ◌^◌, ◌≤◌, ◌<◌}
use mathlib.Core.Path.{◌≡◌, sym, ap, subst, ◌∙◌}
use mathlib.Core.Bool.{true, false, true≢false}
use native.Mathlib.Nat.{mul-pos, mul-le-mul_right, zero-mul, div-le_self}
use native.Mathlib.Omega.{arith}
use lib.Dec.{T}
use lib.Ieee.{Float, nan, inf, fin, binary64, up, down, round, mul}
use lib.Ieee.Fits.{down_pos}
use lib.Ieee.Exact.{HasValue}
use lib.Ieee.Positive.{num, den, den_pos}
use lib.Ieee.Scale.{round_same}
use Rattle.day_fraction.proofs.Sizes.{is_size, no_digits, some_digits}
use Rattle.day_fraction.proofs.Cuts.{cut_of, cut_least, cut_most, cut_below}
use Rattle.day_fraction.proofs.Exactness.{nothing}
use Rattle.day_fraction.proofs.Rounding.{rounded, rounded_size, at_most, at_least, whole}

-- A float that is zero, of either sign.
zero_size : (p : Float) (b : ℕ) → 0 < b → HasValue p true 0 b → T (is_size p) × (num p ≡ 0)
zero_size nan b some v = absurd v
zero_size (inf s) b some v = absurd v
zero_size (fin true zero e) b some v = (tt, zero-mul (up e))
zero_size (fin false zero e) b some v = (tt, zero-mul (up e))
zero_size (fin s (suc m) e) b some v =
    absurd (omega (arith, v.1, zero-mul (down e), mul-pos (some_digits m e) some))

-- A product between the count that f is cut down to and the next, both of which are floats.
pub record Between (day : ℕ) (f p : Float) : Type 0 where
  pub size : T (is_size p)
  pub least : cut_of day f * den p ≤ num p
  pub most : num p ≤ (cut_of day f + 1) * den p

between_rounded : (day : ℕ) (f p : Float) → num f < den f → 0 < day → day < 2 ^ 16 → p ≡ rounded (num f * day) (den f) → Between day f p
between_rounded day f p below some few is =
    let a = num f * day in
    let b = den f in
    let cut = cut_of day f in
    let low = cut_least day f in
    let high = cut_most day f in
    let inside = cut_below day f some below in
    let finite : T (is_size (rounded a b)) = rounded_size a b day (den_pos f) (omega arith) (omega (arith, mul-le-mul_right day below)) in
    subst (Between day f) (sym is)
    (record {
      size = finite;
      least = omega (arith, at_least a b cut 1 (den_pos f) (omega arith) finite (whole cut (omega arith)) (omega arith));
      most = omega (arith, at_most a b (cut + 1) 1 (den_pos f) (omega arith) finite (whole (cut + 1) (omega arith)) (omega arith));
    })

-- A fraction that is zero.
between_zero : (day : ℕ) (f p : Float) → num f ≡ 0 → T (is_size p) × (num p ≡ 0) → Between day f p
between_zero day f p none q =
    let cut = cut_of day f in
    let z : cut ≡ 0 = omega (arith, div-le_self (num f * day) (den f), ap (λ n. n * day) none, zero-mul day) in
    record { size = q.0; least = omega (arith, ap (λ n. n * den p) z, zero-mul (den p)); most = omega (arith, q.1) }

pub product : (day : ℕ) (f y : Float) → T (is_size f) → num f < den f → 0 < day → day < 2 ^ 16 → HasValue y false day 1
    → Between day f (mul binary64 f y)
unfolding mul
product day nan y s below some few v = absurd s
product day (inf b) y s below some few v = absurd s
product day (fin b m e) nan s below some few v = absurd v
product day (fin b m e) (inf t) s below some few v = absurd v
product day (fin b m e) (fin true n k) s below some few v = absurd (true≢false v.0)
product day (fin false m e) (fin false n k) s below some few v =
    between_rounded day (fin false m e) (rounded (m * up e * (n * up k)) (down e * down k)) below some few
    (round_same binary64 false (m * up e * (n * up k)) (down e * down k) (m * up e * day) (down e)
    (mul-pos (down_pos e) (down_pos k))
    (down_pos e)
    (crossed (m * up e) (down e) (n * up k) (down k) (omega (arith, v.1))))
  where
    crossed : (x p y q : ℕ) → y ≡ day * q → x * y * p ≡ x * day * (p * q)
    crossed x p y q is = let same : x * (day * q) * p ≡ x * day * (p * q) = omega arith in ap (λ z. x * z * p) is ∙ same
product day (fin true m e) (fin false n k) s below some few v =
    between_zero day (fin true m e) (round binary64 true a b) (no_digits m (up e) s)
    (zero_size (round binary64 true a b) b (mul-pos (down_pos e) (down_pos k))
    (subst (λ z. HasValue (round binary64 true z b) true 0 b) (sym gone)
    (nothing true b (mul-pos (down_pos e) (down_pos k)))))
  where
    a : ℕ
    a = m * up e * (n * up k)

    b : ℕ
    b = down e * down k

    gone : a ≡ 0
    gone = ap (λ i. i * (n * up k)) (no_digits m (up e) s) ∙ zero-mul (n * up k)
