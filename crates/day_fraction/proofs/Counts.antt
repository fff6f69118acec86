-- The fractions of the counts of a day's parts, beside a fraction f: up to the count that f cuts down to they are not above
-- f, and from the second after it on they are.
use Prim.Native.Nat.{ℕ, ◌+◌, ◌*◌, ◌-◌, ◌/◌, ◌^◌, ◌≤◌, ◌<◌}
use mathlib.Core.Path.{◌≡◌}
use native.Mathlib.Nat.{mul-pos, mul-le-mul_right, mul-lt-mul_of_pos_right, lt_of_mul-lt-mul_right, div-mul-le_self, lt-div-mul-add, div-lt_iff_lt-mul}
use native.Mathlib.Omega.{arith}
use lib.Dec.{T}
use lib.Pow.{pow_pos}
use lib.Ieee.{Float, binary64, fits, le}
use lib.Ieee.Positive.{num, den, den_pos, through}
use Rattle.day_fraction.specs.Fraction.{fraction_of}
use Rattle.day_fraction.proofs.Sizes.{is_size, le→sizes, sizes→le}
use Rattle.day_fraction.proofs.Rounding.{rounded, rounded_size, at_most, at_least, fraction_is}
use Rattle.day_fraction.proofs.Exactness.{binary, own}
use Rattle.day_fraction.proofs.Cuts.{cut_of, cut_least, cut_most, cut_below}

-- x / p is at most u / s, and y / q at least v / s, which is more.
apart : (x p y q u v s : ℕ) → 0 < p → 0 < q → x * s ≤ u * p → v * q ≤ y * s → u < v → x * q < y * p
apart x p y q u v s p-some q-some low high h =
    let a = mul-le-mul_right q low in
    let b = mul-le-mul_right p high in
    let c = mul-lt-mul_of_pos_right h (mul-pos p-some q-some) in
    lt_of_mul-lt-mul_right s (omega arith)

module _ (d : ℕ) (some : 0 < d) (few : d < 2 ^ 16) where
  pub size : (c : ℕ) → c ≤ 2 * d → T (is_size (rounded c d))
  size c h = rounded_size c d 2 some (omega arith) h

  -- The exported fraction is such a quotient.
  pub is_rounded : (c : ℕ) → c ≤ 2 * d → fraction_of d c ≡ rounded c d
  is_rounded c h = fraction_is d c some (omega arith) (omega arith)

  -- Between the fractions of a count and of the next lie two neighbours of the 2^53 equal parts of one, which are floats.
  pub rises : (c : ℕ) → c < d
      → num (rounded c d) * den (rounded (c + 1) d) < num (rounded (c + 1) d) * den (rounded c d)
  rises c h =
      let x = rounded c d in
      let y = rounded (c + 1) d in
      let q = c * 2 ^ 53 / d in
      let least : q * d ≤ c * 2 ^ 53 = div-mul-le_self (c * 2 ^ 53) d in
      let most : c * 2 ^ 53 < q * d + d = lt-div-mul-add {a = c * 2 ^ 53} some in
      let inside : q < 2 ^ 53 - 2 = (div-lt_iff_lt-mul some).1 (omega arith) in
      apart (num x) (den x) (num y) (den y) (q + 1) (q + 2) (2 ^ 53) (den_pos x) (den_pos y)
      (at_most c d (q + 1) (2 ^ 53) some (pow_pos 53) (size c (omega arith)) (binary (q + 1) 53 (omega arith) (omega arith)) (omega arith))
      (at_least (c + 1) d (q + 2) (2 ^ 53) some (pow_pos 53) (size (c + 1) (omega arith)) (binary (q + 2) 53 (omega arith) (omega arith)) (omega arith))
      (omega arith)

  module _ (f : Float) (float : T (fits binary64 f)) (f_size : T (is_size f)) (below : num f < den f) where
    abbrev cut : ℕ
    cut = cut_of d f

    inside : cut < d
    inside = cut_below d f some below

    pub lies_not_above : (c : ℕ) → c ≤ cut → T (le (rounded c d) f)
    lies_not_above c h =
        sizes→le (rounded c d) f (size c (omega (arith, inside))) f_size
        (at_most c d (num f) (den f) some (den_pos f) (size c (omega (arith, inside))) (own f float f_size below)
        (omega (arith, cut_least d f, mul-le-mul_right (den f) h)))

    pub above : (c : ℕ) → cut < c → c < d → T (le (rounded (c + 1) d) f) → ⊥
    above c h within t =
        let x = rounded c d in
        let y = rounded (c + 1) d in
        let low = le→sizes y f (size (c + 1) (omega arith)) f_size t in
        let high =
        at_least c d (num f) (den f) some (den_pos f) (size c (omega arith)) (own f float f_size below)
        (omega (arith, cut_most d f, mul-le-mul_right {m = cut + 1} {n = c} (den f) (omega arith)))
        in
        omega (arith, rises c within, through (num y) (num f) (num x) (den y) (den f) (den x) (den_pos f) low high)

    -- a whole day is above any fraction of it
    pub day_above : (c : ℕ) → d ≤ c → c ≤ 2 * d → T (le (rounded c d) f) → ⊥
    day_above c h within t =
        let x = rounded c d in
        let low = at_least c d 1 1 some (omega arith) (size c within) (binary 1 0 (omega arith) (omega arith)) (omega arith) in
        let high = le→sizes x f (size c within) f_size t in
        omega (arith, below, through 1 (num x) (num f) 1 (den x) (den f) (den_pos x) low high)
