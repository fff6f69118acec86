-- The code's guess: by a sum that is a whole number, between the count that a fraction is cut down to and the next.
use Prim.Native.Nat.{ℕ, ◌+◌, ◌*◌, ◌-◌, ◌^◌, ◌≤◌, ◌<◌}
use mathlib.Core.Path.{◌≡◌, sym, ap, subst, ◌∙◌}
use mathlib.Core.Bool.{false, not}
use native.Mathlib.Nat.{mul-le-mul_right}
use native.Mathlib.Omega.{arith}
use lib.Dec.{T}
use lib.IntN.{pos}
use lib.Ieee.{Float, fin, binary64, of_int, mul, add, sub, is_nan, to_bits}
use lib.Ieee.Fits.{round-fits}
use lib.Ieee.Positive.{num, den, den_pos}
use Rattle.day_fraction.specs.Settling.{is_fraction}
use Rattle.day_fraction.proofs.Sizes.{is_size, size_number, fraction_size}
use Rattle.day_fraction.proofs.Cuts.{cut_of, NearCut, cut_below}
use Rattle.day_fraction.proofs.Rounding.{rounded, rounded_size, at_most, at_least, whole}
use Rattle.day_fraction.proofs.Product.{Between, product}
use Rattle.day_fraction.proofs.WholeFloats.{shifted, whole_float, taken_off, one_more}

-- The code's sum and its guess.
abbrev pub sum_of : ℕ → Float → Float
sum_of day f = add binary64 (mul binary64 f (of_int binary64 (pos day))) (fin false 1 (pos 52))

abbrev pub guess_of : ℕ → Float → ℕ
guess_of day f = to_bits binary64 (sum_of day f) - 1075 * 2 ^ 52

module _ (day : ℕ) (f : Float) (some : 0 < day) (few : day < 2 ^ 16) (t : T (is_fraction f)) where
  abbrev p : Float
  p = mul binary64 f (of_int binary64 (pos day))

  abbrev q : Float
  q = sum_of day f

  abbrev guess : ℕ
  guess = guess_of day f

  between : Between day f p
  unfolding of_int
  between = product day f (rounded day 1) (fraction_size f t).0 (fraction_size f t).1 some few (whole day (omega arith))

  inside : cut_of day f < day
  inside = cut_below day f some (fraction_size f t).1

  -- The sum lies between that count and the next, too, each with 2^52 added.
  abbrev a : ℕ
  a = num p + 2 ^ 52 * den p

  is_sum : q ≡ rounded a (den p)
  is_sum = shifted p between.size

  sum_size : T (is_size (rounded a (den p)))
  sum_size = rounded_size a (den p) (cut_of day f + 1 + 2 ^ 52) (den_pos p) (omega (arith, inside)) (omega (arith, between.most))

  sum_between : ((cut_of day f + 2 ^ 52) * den (rounded a (den p)) ≤ num (rounded a (den p)))
      × (num (rounded a (den p)) ≤ (cut_of day f + 1 + 2 ^ 52) * den (rounded a (den p)))
  sum_between =
      let least = cut_of day f + 2 ^ 52 in
      let most = cut_of day f + 1 + 2 ^ 52 in (
        omega (arith, at_least a (den p) least 1 (den_pos p) (omega arith) sum_size (whole least (omega (arith, inside))) (omega (arith, between.least))),
        omega (arith, at_most a (den p) most 1 (den_pos p) (omega arith) sum_size (whole most (omega (arith, inside))) (omega (arith, between.most))),
      )

  -- So it is a whole number, and its pattern counts on from that of 2^52.
  abbrev y : Float
  y = rounded a (den p)

  is_whole_lem : (den y ≡ 1) × (to_bits binary64 y ≡ 1074 * 2 ^ 52 + num y)
  is_whole_lem =
      whole_float y (round-fits binary64 false a (den p)) sum_size
      (omega (arith, sum_between.0, mul-le-mul_right {m = 2 ^ 52} {n = cut_of day f + 2 ^ 52} (den y) (omega arith)))
      (omega (arith, sum_between.1, den_pos y, mul-le-mul_right {m = cut_of day f + 1 + 2 ^ 52} {n = 2 ^ 53 - 1} (den y) (omega (arith, inside))))

  counts_on : (num y ≡ guess + 2 ^ 52) × (1075 * 2 ^ 52 ≤ to_bits binary64 q) × NearCut day f guess
  counts_on =
      let bits = ap (to_bits binary64) is_sum in
      let low = ap (λ d. (cut_of day f + 2 ^ 52) * d) is_whole_lem.0 in
      let high = ap (λ d. (cut_of day f + 1 + 2 ^ 52) * d) is_whole_lem.0 in
      let least = sum_between.0 in
      let most = sum_between.1 in
      let pattern = is_whole_lem.1 in
      (omega arith, omega arith, record { at_least = omega arith; at_most = omega arith })

  pub sum_number : T (not (is_nan q))
  sum_number = subst (λ x. T (not (is_nan x))) (sym is_sum) (size_number y sum_size)

  pub pattern_least : 1075 * 2 ^ 52 ≤ to_bits binary64 q
  pattern_least = counts_on.1

  pub near : NearCut day f guess
  near = counts_on.2

  pub guess_small : guess < 2 ^ 32
  guess_small = omega (arith, near.at_most, inside)

  -- The guess as a float, and the next.
  pub guess_float : sub binary64 q (fin false 1 (pos 52)) ≡ of_int binary64 (pos guess)
  unfolding of_int
  guess_float =
      let left : num y - 2 ^ 52 ≡ guess = omega (arith, counts_on.0) in
      ap (λ x. sub binary64 x (fin false 1 (pos 52))) is_sum
      ∙ taken_off y sum_size is_whole_lem.0 (omega (arith, counts_on.0))
      ∙ ap (λ n. rounded n 1) left

  pub next_float : add binary64 (sub binary64 q (fin false 1 (pos 52))) (fin false 1 (pos 0)) ≡ of_int binary64 (pos (guess + 1))
  unfolding of_int
  next_float =
      ap (λ x. add binary64 x (fin false 1 (pos 0))) guess_float
      ∙ one_more (rounded guess 1) guess (whole guess (omega (arith, guess_small)))
