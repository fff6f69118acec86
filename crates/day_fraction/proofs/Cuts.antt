-- The count of parts that a fraction of a day is cut down to.
use Prim.Native.Nat.{ℕ, ◌+◌, ◌*◌, ◌/◌, ◌≤◌, ◌<◌}
use native.Mathlib.Nat.{div-mul-le_self, lt-div-mul-add, div-lt_iff_lt-mul, mul-lt-mul_of_pos_right}
use native.Mathlib.Omega.{arith}
use lib.Ieee.{Float}
use lib.Ieee.Positive.{num, den, den_pos}

-- A fraction is num / den. Of `day` parts it is so many whole ones.
abbrev pub cut_of : ℕ → Float → ℕ
cut_of day f = num f * day / den f

-- That count, or the next.
pub record NearCut (day : ℕ) (f : Float) (guess : ℕ) : Type 0 where
  pub at_least : cut_of day f ≤ guess
  pub at_most : guess ≤ cut_of day f + 1

module _ (day : ℕ) (f : Float) where
  pub cut_least : cut_of day f * den f ≤ num f * day
  cut_least = div-mul-le_self (num f * day) (den f)

  pub cut_most : num f * day < (cut_of day f + 1) * den f
  cut_most = omega (arith, lt-div-mul-add {a = num f * day} (den_pos f))

  pub cut_below : 0 < day → num f < den f → cut_of day f < day
  cut_below some below = (div-lt_iff_lt-mul (den_pos f)).1 (omega (arith, mul-lt-mul_of_pos_right below some))
