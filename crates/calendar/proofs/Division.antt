-- Whole division: what is cut down, what a step of the dividend does to the quotient, and how a scaling is inverted.
use Prim.Native.Nat.{ℕ, ◌+◌, ◌*◌, ◌-◌, ◌/◌, ◌≤◌, ◌<◌}
use mathlib.Core.Path.{◌≡◌, sym, ap, ap₂, ◌∙◌}
use native.Mathlib.Nat.{le-div_iff_mul-le, div-lt_iff_lt-mul, div-mul-le_self, lt-div-mul-add, div-eq_of_lt-le, mul-pos, mul-div_cancel_left, mul-div-mul_left, div-le_of_le-mul, mul-le-mul_left}
use native.Mathlib.Omega.{arith}
use Rattle.calendar.specs.CutDown.{CutDown}

-- A quotient is what is cut down, and nothing else is.
module _ (numerator denominator : ℕ) (some : 0 < denominator) where
  pub cut_down : CutDown numerator denominator (numerator / denominator)
  cut_down = (div-mul-le_self numerator denominator, omega (arith, lt-div-mul-add {a = numerator} some))

  pub cut_down_is : (whole : ℕ) → CutDown numerator denominator whole → whole ≡ numerator / denominator
  cut_down_is whole d = sym (div-eq_of_lt-le denominator d.0 d.1)

-- A factor that dividend and divisor share changes no quotient.
pub shared_factor : (m x y : ℕ) {n d : ℕ} → 0 < m → n ≡ m * x → d ≡ m * y → n / d ≡ x / y
shared_factor m x y some p q = ap₂ (λ a b. a / b) p q ∙ mul-div-mul_left x y some

-- Products with the same factor are equal only if the other factors are.
pub cancel_factor : (m x y : ℕ) → 0 < m → m * x ≡ m * y → x ≡ y
cancel_factor m x y some e = sym (mul-div_cancel_left x some) ∙ ap (λ a. a / m) e ∙ mul-div_cancel_left y some

-- The scaling x ↦ x a / b.
module _ (a b : ℕ) (b_some : 0 < b) where
  -- in n steps it rises by at least s, if n a is at least s b
  pub scaled_least : (n s x : ℕ) → s * b ≤ n * a → x * a / b + s ≤ (x + n) * a / b
  scaled_least n s x h = (le-div_iff_mul-le b_some).1 (omega (arith, div-mul-le_self (x * a) b))

  -- and by at most s, if n a is at most s b
  pub scaled_most : (n s x : ℕ) → n * a ≤ s * b → (x + n) * a / b ≤ x * a / b + s
  scaled_most n s x h =
      let l : (x + n) * a / b < x * a / b + s + 1 =
      (div-lt_iff_lt-mul b_some).1 (omega (arith, lt-div-mul-add {a = x * a} b_some))
      in
      omega arith

  -- it is at most s x, if a is at most s b
  pub scaled_small : (s x : ℕ) → a ≤ s * b → x * a / b ≤ s * x
  scaled_small s x h = div-le_of_le-mul b (omega (arith, mul-le-mul_left x h))

  -- (y b - 1) / a is the last x that is scaled below y: the numbers up to it are, and no later one is
  module _ (a_some : 0 < a) (x y : ℕ) where
    pub last_of_below : x * a / b < y → x ≤ (y * b - 1) / a
    last_of_below h = (le-div_iff_mul-le a_some).1 (omega (arith, (div-lt_iff_lt-mul b_some).0 h))

    pub below_of_last : 0 < y → x ≤ (y * b - 1) / a → x * a / b < y
    below_of_last some h =
        (div-lt_iff_lt-mul b_some).1 (omega (arith, (le-div_iff_mul-le a_some).0 h, mul-pos some b_some))

    pub after_of_from : 0 < y → y ≤ x * a / b → (y * b - 1) / a < x
    after_of_from some h =
        (div-lt_iff_lt-mul a_some).1 (omega (arith, (le-div_iff_mul-le b_some).0 h, mul-pos some b_some))

    pub from_of_after : (y * b - 1) / a < x → y ≤ x * a / b
    from_of_after h = (le-div_iff_mul-le b_some).1 (omega (arith, (div-lt_iff_lt-mul a_some).0 h))
