-- Fractions that a float is exactly.
use Prim.Native.Nat.{ℕ, zero, suc, ◌+◌, ◌*◌, ◌-◌, ◌%◌, ◌^◌, ◌≤◌, ◌<◌}
use mathlib.Core.Path.{◌≡◌, sym, ap, subst, ◌∙◌}
use mathlib.Core.Bool.{Bool, true, false, ◌&&◌}
use native.Mathlib.Nat.{lt_of_lt_of_le, not-le_of_lt, mul_assoc, zero-mul}
use native.Mathlib.Omega.{arith}
use native.Mathlib.Decide.{dec_lt}
use lib.Dec.{T, ltb, leb, eqb, eqb→eq, ltb→lt, leb→le}
use lib.IntN.{ℤ, pos, negsuc}
use lib.Pow.{pow_pos, pow_mono, pow-lt, pow-add, shl_lt}
use lib.Ieee.{Float, nan, inf, fin, binary64, up, down, round, fits}
use lib.Ieee.Fits.{and_l, and_r, down_pos}
use lib.Ieee.Exact.{HasValue, round_exact}
use lib.Ieee.Positive.{num, den}
use Rattle.day_fraction.proofs.Sizes.{is_size, some_digits}
use Rattle.day_fraction.proofs.Rounding.{Exact}

-- So many of the 2^k equal parts of one, where 53 binary digits tell them.
pub binary : (m k : ℕ) → m < 2 ^ 53 → k ≤ 1074 → Exact m (2 ^ k)
binary m k small fine =
    let j = 1074 - k in
    let whole : 1074 ≡ j + k = omega arith in
    round_exact binary64 false m (2 ^ k) m j (pow_pos k) small
    (lt_of_lt_of_le (shl_lt 53 j small) (pow_mono {i = 53 + j} {j = 2098} (omega arith)))
    (ap (λ z. m * z) (ap (λ z. 2 ^ z) whole ∙ pow-add 2 j k) ∙ sym (mul_assoc m (2 ^ j) (2 ^ k)))

-- Zero is a float, of either sign.
pub nothing : (s : Bool) (b : ℕ) → 0 < b → HasValue (round binary64 s 0 b) s 0 b
nothing s b some = round_exact binary64 s 0 b 0 0 some (pow_pos 53) (pow_pos 2098) (zero-mul (2 ^ 1074) ∙ sym (zero-mul b))

-- no more places than the smallest float has
places : (k : ℕ) → 2 ^ k ≤ 2 ^ 1074 → k ≤ 1074
places k h = elim (dec_lt 1074 k) [ yes l ↦ absurd (not-le_of_lt (pow-lt {i = 1074} {j = k} l) h) | no l ↦ omega arith ]

-- A float has no more digits, nor places.
pub digits : (b : Bool) (m : ℕ) (e : ℤ) → T (fits binary64 (fin b (suc m) e)) → (suc m < 2 ^ 53) × (down e ≤ 2 ^ 1074)
unfolding fits
digits b m e t =
    let odd : Bool = eqb (suc m % 2) 1 in
    let few : Bool = ltb (suc m) (2 ^ 53) in
    let fine : Bool = leb (down e) (2 ^ 1074) in
    let finite : Bool = ltb (suc m * up e) (2 ^ 1024 * down e) in
    let three = and_l (odd && few && fine) finite t in (
      ltb→lt (suc m) (2 ^ 53) (and_r odd few (and_l (odd && few) fine three)),
      leb→le (down e) (2 ^ 1074) (and_r (odd && few) fine three),
    )

-- What a float below one is.
pub own : (f : Float) → T (fits binary64 f) → T (is_size f) → num f < den f → Exact (num f) (den f)
own nan t s below = absurd s
own (inf b) t s below = absurd s
own (fin b zero e) t s below = subst (λ a. Exact a (down e)) (sym (zero-mul (up e))) (nothing false (down e) (down_pos e))
own (fin true (suc m) e) t s below = absurd (let z = eqb→eq (suc m) 0 s in omega arith)
own (fin false (suc m) (pos k)) t s below = absurd (omega (arith, some_digits m (pos k)))
own (fin false (suc m) (negsuc k)) t s below =
    let few = digits false m (negsuc k) t in
    subst (λ n. Exact n (2 ^ suc k)) (omega arith) (binary (suc m) (suc k) few.0 (places (suc k) few.1))
