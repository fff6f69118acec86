-- The count of parts that a fraction of a day settles to: paper 02, Q-11.
use Rattle.std.specs.Prelude.{ℕ, zero, suc, ◌<◌, ◌≡◌, ◌⊎◌, Bool, cond, ◌&&◌, T, ltb, Float, Option, Some, None}
use Rattle.std.specs.Float.{nan}
use Rattle.std.specs.Float.Ieee.{le, lt}
use Rattle.day_fraction.specs.Fraction.{fraction_of, zero_float, one_float}

-- "A fraction that is not a number, below zero or not below one" is none of a day.
abbrev pub NoFraction : Float → Type 0
NoFraction f = (f ≡ nan) ⊎ T (lt f zero_float) ⊎ T (le one_float f)

-- As it is computed: not below zero, and below one. Negative zero is not below zero; what is not a number is neither.
unfoldable pub is_fraction : Float → Bool
is_fraction f = le zero_float f && lt f one_float

-- "The largest count of parts below D whose exported fraction is not above it."
pub record IsLargest (in_day : ℕ) (f : Float) (count : ℕ) : Type 0 where
  pub below : count < in_day
  pub lies_not_above : T (le (fraction_of in_day count) f)
  pub none_larger : (parts : ℕ) → count < parts → parts < in_day → T (le (fraction_of in_day parts) f) → ⊥

-- As it is computed: the largest number below n with a property, 0 where there is none.
unfoldable pub largest_below : ℕ → (ℕ → Bool) → ℕ
largest_below zero p = zero
largest_below (suc n) p = cond (p n) n (largest_below n p)

abbrev pub not_above : ℕ → Float → ℕ → Bool
not_above in_day f parts = le (fraction_of in_day parts) f

abbrev pub count_of : ℕ → Float → ℕ
count_of in_day f = largest_below in_day (not_above in_day f)

-- A fraction settles to that count. A day of no parts has none.
unfoldable pub settled_of : ℕ → Float → Option ℕ
settled_of in_day f = cond (ltb 0 in_day && is_fraction f) (Some (count_of in_day f)) None

-- A test as a number: 1 where it holds, and 0 where it does not.
abbrev pub bit : Bool → ℕ
bit b = cond b 1 0
