-- The exported fraction of a count is a fraction of a day, and settles to that count.
use Prim.Native.Nat.{ℕ, ◌+◌, ◌*◌, ◌^◌, ◌≤◌, ◌<◌}
use mathlib.Core.Path.{◌≡◌, sym, subst}
use mathlib.Core.Bool.{not}
use native.Mathlib.Nat.{mul-le-mul_right, lt_of_mul-lt-mul_right}
use native.Mathlib.Omega.{arith}
use lib.Dec.{T}
use lib.IntN.{pos}
use lib.Ieee.{Float, binary64, is_nan, le, fits, of_int}
use lib.Ieee.Fits.{div-fits}
use lib.Ieee.Order.{round_mono}
use lib.Ieee.Positive.{num, den, den_pos, through}
use Rattle.day_fraction.specs.Fraction.{fraction_of}
use Rattle.day_fraction.specs.Settling.{is_fraction, not_above, count_of}
use Rattle.day_fraction.proofs.Sizes.{is_size, size_number, le→sizes, sizes→le, size_fraction}
use Rattle.day_fraction.proofs.Rounding.{rounded, at_most}
use Rattle.day_fraction.proofs.Exactness.{binary}
use Rattle.day_fraction.proofs.Counts.{size, is_rounded, rises}
use Rattle.day_fraction.proofs.Largest.{last_is}

module _ (day : ℕ) (some : 0 < day) (few : day < 2 ^ 16) where
  module _ (parts : ℕ) (below : parts < day) where
    abbrev x : Float
    x = rounded parts day

    x_size : T (is_size x)
    x_size = size day some few parts (omega arith)

    -- Below one: the next is not above one, and above it.
    x_below : num x < den x
    x_below =
        let y = rounded (parts + 1) day in
        let most : num y * 1 ≤ 1 * den y =
        at_most (parts + 1) day 1 1 some (omega arith) (size day some few (parts + 1) (omega arith)) (binary 1 0 (omega arith) (omega arith)) (omega arith)
        in
        let less : num x * den y < num y * den x = rises day some few parts below in
        let whole : num y * den x ≤ den y * den x = mul-le-mul_right (den x) (omega arith) in
        lt_of_mul-lt-mul_right (den y) (omega arith)

    pub fraction_number : T (not (is_nan (fraction_of day parts)))
    fraction_number = subst (λ f. T (not (is_nan f))) (sym (is_rounded day some few parts (omega arith))) (size_number x x_size)

    pub fraction_float : T (fits binary64 (fraction_of day parts))
    fraction_float = div-fits binary64 (of_int binary64 (pos parts)) (of_int binary64 (pos day))

    pub fraction_of_day : T (is_fraction (fraction_of day parts))
    fraction_of_day =
        subst (λ f. T (is_fraction f)) (sym (is_rounded day some few parts (omega arith))) (size_fraction x x_size x_below)

    -- Its own is not above it, and that of any larger count is.
    pub comes_back : count_of day (fraction_of day parts) ≡ parts
    comes_back =
        last_is (not_above day (fraction_of day parts)) day parts (
          below,
          subst (λ f. T (le f f)) (sym (is_rounded day some few parts (omega arith))) (sizes→le x x x_size x_size (omega arith)),
          λ c after inside t. later c after inside t,
        )
      where
        later : (c : ℕ) → parts < c → c < day → T (not_above day (fraction_of day parts) c) → ⊥
        later c after inside t =
            let y = rounded (parts + 1) day in
            let z = rounded c day in
            let y_size = size day some few (parts + 1) (omega arith) in
            let z_size = size day some few c (omega arith) in
            let up : num y * den z ≤ num z * den y =
            le→sizes y z y_size z_size (round_mono binary64 (parts + 1) day c day some some (mul-le-mul_right day (omega arith)))
            in
            let back : num z * den x ≤ num x * den z =
            le→sizes z x z_size x_size
            (subst (λ f. T (le f x)) (is_rounded day some few c (omega arith)) (subst (λ f. T (le (fraction_of day c) f)) (is_rounded day some few parts (omega arith)) t))
            in
            omega (arith, rises day some few parts below, through (num y) (num z) (num x) (den y) (den z) (den x) (den_pos z) up back)
