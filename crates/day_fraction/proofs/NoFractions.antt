-- What is no fraction of a day: not a number, below zero, or not below one.
use Prim.Native.Nat.{zero, suc, ◌+◌, ◌*◌, ◌<◌}
use mathlib.Core.Path.{refl, subst}
use mathlib.Core.Logic.{inl, inr, ⊎_elim}
use mathlib.Core.Bool.{true, false}
use native.Mathlib.Nat.{zero-mul}
use native.Mathlib.Omega.{arith}
use native.Mathlib.Decide.{dec_lt}
use lib.Dec.{T, lt→ltb, ltb→lt}
use lib.Ieee.{Float, nan, inf, fin, up, down, le, lt}
use lib.Ieee.Fits.{down_pos}
use lib.Ieee.Positive.{num, den}
use Rattle.day_fraction.specs.Fraction.{zero_float, one_float}
use Rattle.day_fraction.specs.Settling.{is_fraction, NoFraction}
use Rattle.day_fraction.proofs.Sizes.{is_size, no_digits, some_digits, le→sizes, sizes→le, fraction_size, size_fraction}

no_nan : T (is_fraction nan) → ⊥
unfolding is_fraction le
no_nan t = t

below_zero : (f : Float) → T (is_size f) → T (lt f zero_float) → ⊥
unfolding lt
below_zero nan s h = s
below_zero (inf b) s h = s
below_zero (fin false m e) s h = omega (arith, ltb→lt (m * up e * 1) (0 * 1 * down e) h, zero-mul (down e))
below_zero (fin true m e) s h =
    omega (arith, ltb→lt 0 (m * up e * 1 + 0 * 1 * down e) h, no_digits m (up e) s, zero-mul (down e))

-- A float is a fraction of a day, or one of those.
pub by_fraction : {P : Type 0} (f : Float) → (T (is_fraction f) → P) → (NoFraction f → P) → P
unfolding is_fraction le lt
by_fraction nan is isnt = isnt (inl refl)
by_fraction (inf true) is isnt = isnt (inr (inl tt))
by_fraction (inf false) is isnt = isnt (inr (inr tt))
by_fraction (fin true zero e) is isnt =
    is (size_fraction (fin true zero e) tt (omega (arith, zero-mul (up e), down_pos e)))
by_fraction (fin true (suc m) e) is isnt =
    isnt
    (inr (inl (lt→ltb 0 (suc m * up e * 1 + 0 * 1 * down e) (omega (arith, some_digits m e)))))
by_fraction (fin false m e) is isnt =
    let f = fin false m e in
    elim (dec_lt (m * up e) (down e)) [
      | yes h ↦ is (size_fraction f tt h)
      | no h ↦ isnt (inr (inr (sizes→le one_float f tt tt (omega arith))))
    ]

-- Nothing is both.
pub never_both : (f : Float) → T (is_fraction f) → NoFraction f → ⊥
never_both f t none =
    ⊎_elim
    (λ is. no_nan (subst (λ x. T (is_fraction x)) is t))
    (λ other. ⊎_elim (below_zero f (fraction_size f t).0) (λ h. from_one (fraction_size f t) h) other)
    none
  where
    from_one : T (is_size f) × (num f < den f) → T (le one_float f) → ⊥
    from_one s h = omega (arith, s.1, le→sizes one_float f tt s.0 h)
