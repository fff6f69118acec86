-- Floats from 2^52 up to 2^53: they are the whole numbers, and their patterns count on by one.
use Prim.Native.Nat.{ℕ, zero, suc, ◌+◌, ◌*◌, ◌-◌, ◌/◌, ◌^◌, ◌≤◌, ◌<◌}
use mathlib.Core.Path.{◌≡◌, refl, ap, ap₂, ◌∙◌}
use mathlib.Core.Bool.{true, false, true≢false}
use native.Mathlib.Nat.{le_trans, le_of_eq, lt_of_lt_of_le, not-le_of_lt, div-one, mul-le-mul_right}
use native.Mathlib.Omega.{arith}
use native.Mathlib.Decide.{dec_lt}
use lib.Dec.{T}
use lib.IntN.{pos, negsuc}
use lib.Pow.{pow_pos, pow_mono, pow-add, shl_lt, shl-shr}
use lib.Ieee.{Float, nan, inf, fin, binary64, up, down, size, neg, add, sub, sum, fits, to_bits}
use lib.Ieee.Digits.{size-lt, size-le}
use lib.Ieee.Fits.{down_pos}
use lib.Ieee.Exact.{HasValue}
use lib.Ieee.Positive.{num, den}
use lib.Ieee.Scale.{round_same}
use borrow.Author.Tests.{lt-ltb, le-ltb}
use Rattle.day_fraction.proofs.Sizes.{is_size, no_digits}
use Rattle.day_fraction.proofs.Exactness.{digits}
use Rattle.day_fraction.proofs.Rounding.{rounded}

-- The pattern of such a whole number.
scaled_size : (v l : ℕ) → 2 ^ 52 ≤ v → v < 2 ^ 53 → size (v * 2 ^ l) ≡ 53 + l
scaled_size v l least most =
    let n = v * 2 ^ l in
    let reached : 2 ^ (52 + l) ≤ n = le_trans (le_of_eq (pow-add 2 52 l)) (mul-le-mul_right (2 ^ l) least) in
    let upper : size n ≤ 53 + l = size-le n (53 + l) (shl_lt 53 l most) in
    elim (dec_lt (52 + l) (size n)) [
      | yes h ↦ omega arith
      | no h ↦ absurd (not-le_of_lt (lt_of_lt_of_le (size-lt n) (pow_mono {i = size n} {j = 52 + l} (omega arith))) reached)
    ]

pattern_of_whole : (m k : ℕ) → 2 ^ 52 ≤ m * 2 ^ k → m * 2 ^ k < 2 ^ 53
    → to_bits binary64 (fin false m (pos k)) ≡ 1074 * 2 ^ 52 + m * 2 ^ k
unfolding to_bits
pattern_of_whole m k least most =
    let v = m * 2 ^ k in
    ap (λ n. 0 + (size n - 53) * 2 ^ 52 + n / 2 ^ (size n - 53)) (div-one (v * 2 ^ 1074))
    ∙ ap (λ z. 0 + (z - 53) * 2 ^ 52 + v * 2 ^ 1074 / 2 ^ (z - 53)) (scaled_size v 1074 least most)
    ∙ ap (λ z. 1074 * 2 ^ 52 + z) (shl-shr v 1074)

-- A float from there on is whole, and its pattern counts on from that of 2^52, which is 1075 2^52.
pub whole_float : (q : Float) → T (fits binary64 q) → T (is_size q) → 2 ^ 52 * den q ≤ num q → num q < 2 ^ 53 * den q
    → (den q ≡ 1) × (to_bits binary64 q ≡ 1074 * 2 ^ 52 + num q)
whole_float nan t s least most = absurd s
whole_float (inf b) t s least most = absurd s
whole_float (fin true m e) t s least most =
    absurd (omega (arith, down_pos e, no_digits m (up e) s))
whole_float (fin false m (pos k)) t s least most = (refl, pattern_of_whole m k (omega arith) (omega arith))
whole_float (fin false zero (negsuc k)) t s least most = absurd (omega (arith, pow_pos (suc k)))
whole_float (fin false (suc m) (negsuc k)) t s least most =
    absurd (omega (arith, (digits false m (negsuc k) t).0, pow_mono {i = 1} {j = suc k} (omega arith)))

alike : (a b c d : ℕ) → a ≡ c → b ≡ d → rounded a b ≡ rounded c d
alike a b c d p q = ap₂ rounded p q

-- A sum with 2^52.
pub shifted : (p : Float) → T (is_size p) → add binary64 p (fin false 1 (pos 52)) ≡ rounded (num p + 2 ^ 52 * den p) (den p)
unfolding add sum
shifted nan s = absurd s
shifted (inf b) s = absurd s
shifted (fin false m e) s = alike (m * up e * 1 + 2 ^ 52 * down e) (down e * 1) (m * up e + 2 ^ 52 * down e) (down e) (omega arith) (omega arith)
shifted (fin true m e) s =
    let z = no_digits m (up e) s in
    simp (lt-ltb (m * up e * 1) (2 ^ 52 * down e) (omega (arith, down_pos e)))
    (alike (2 ^ 52 * down e - m * up e * 1) (down e * 1) (m * up e + 2 ^ 52 * down e) (down e) (omega arith) (omega arith))

-- With 2^52 taken off again it is a whole number as a float; and so it is with one more.
pub taken_off : (y : Float) → T (is_size y) → den y ≡ 1 → 2 ^ 52 ≤ num y → sub binary64 y (fin false 1 (pos 52)) ≡ rounded (num y - 2 ^ 52) 1
unfolding sub neg add sum
taken_off nan s one least = absurd s
taken_off (inf b) s one least = absurd s
taken_off (fin true m e) s one least =
    absurd (omega (arith, no_digits m (up e) s))
taken_off (fin false m e) s one least =
    simp (le-ltb (m * up e * 1) (2 ^ 52 * down e) (omega arith))
    (alike (m * up e * 1 - 2 ^ 52 * down e) (down e * 1) (m * up e - 2 ^ 52) 1 (omega arith) (omega arith))

pub one_more : (x : Float) (n : ℕ) → HasValue x false n 1 → add binary64 x (fin false 1 (pos 0)) ≡ rounded (n + 1) 1
unfolding add sum
one_more nan n v = absurd v
one_more (inf b) n v = absurd v
one_more (fin true m e) n v = absurd (true≢false v.0)
one_more (fin false m e) n v =
    round_same binary64 false (m * up e * 1 + 1 * 1 * down e) (down e * 1) (n + 1) 1 (omega (arith, down_pos e)) (omega arith)
    (omega (arith, v.1))
