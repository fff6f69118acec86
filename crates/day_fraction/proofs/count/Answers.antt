use Prim.Native.Nat.{◌+◌, ◌<◌}
use mathlib.Core.Path.{◌≡◌, sym, subst}
use native.Mathlib.Omega.{arith}
use lib.Dec.{T}
use lib.Ieee.{of_bits}
use Rattle.day_fraction.proofs.Guessing.{guess_of, sum_number, pattern_least, guess_small}
use Rattle.day_fraction.specs.Settling.{count_of}
use Rattle.day_fraction.proofs.Counting.{as_bit, total}
use Rattle.day_fraction.proofs.count.Goals as goal

found : (c : goal.After-from-after_guess) → let day = c.args.in_day in
    let f = c.args.f in
    (guess_of day f + c.from-at_guess.result + c.from-after_guess.result ≡ count_of day f + 1) × (count_of day f < day)
unfolding of_bits
found c =
    total _ _ c.requires.0 c.ranges.in_day.fits (subst T (sym c.well_formed.1.0.1) tt) c.requires.1 (as_bit c.from-at_guess.ensures c.not_above.ensures) (as_bit c.from-after_guess.ensures c.not_above-2.ensures)

pub float_to_bits-guess : goal.float_to_bits-guess
unfolding of_bits
float_to_bits-guess c = sum_number _ _ c.requires.0 c.ranges.in_day.fits c.requires.1

pub overflow_sub-guess : goal.overflow_sub-guess
unfolding of_bits
overflow_sub-guess c = pattern_least _ _ c.requires.0 c.ranges.in_day.fits c.requires.1

pub overflow_cast-guess : goal.overflow_cast-guess
unfolding of_bits
overflow_cast-guess c =
    record { fits = guess_small _ _ c.requires.0 c.ranges.in_day.fits c.requires.1 }

pub overflow_add-result : goal.overflow_add-result
unfolding of_bits
overflow_add-result c = omega (arith, (found c).0, (found c).1, c.ranges.in_day.fits)

pub overflow_add-result-2 : goal.overflow_add-result-2
unfolding of_bits
overflow_add-result-2 c = omega (arith, (found c).0, (found c).1, c.ranges.in_day.fits)

pub overflow_sub-result : goal.overflow_sub-result
unfolding of_bits
overflow_sub-result c = omega (arith, (found c).0)

pub overflow_cast-result : goal.overflow_cast-result
unfolding of_bits
overflow_cast-result c = omega (arith, (found c).0, (found c).1, c.ranges.in_day.fits)

pub returns : goal.returns
unfolding of_bits
returns c = omega (arith, (found c).0)
