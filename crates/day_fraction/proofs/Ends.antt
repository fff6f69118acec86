-- What the code settles a fraction to, by its tests.
use Prim.Native.Nat.{ℕ, ◌^◌, ◌≤◌, ◌<◌}
use mathlib.Core.Path.{◌≡◌, refl, sym, subst, ◌∙◌}
use mathlib.Core.Bool.{true, false, true≢false, and-false, and-true}
use lib.Dec.{T, not_T, leb}
use lib.Ieee.{Float, nan, inf, fin, binary64, le, lt, fits, is_nan, to_bits}
use lib.Ieee.Bits.{is_true, is_false}
use Rattle.std.specs.Prelude.{Some, None}
use borrow.Author.Tests.{lt-ltb, le-leb}
use Rattle.day_fraction.specs.Fraction.{zero_float, one_float}
use Rattle.day_fraction.specs.Settling.{is_fraction, count_of, settled_of}
use Rattle.day_fraction.proofs.BelowZero.{by_pattern}

pub below_zero : (day : ℕ) (f : Float) → le zero_float f ≡ false → None ≡ settled_of day f
unfolding settled_of is_fraction
below_zero day f below = simp (below, and-false)

number : (f : Float) → lt f one_float ≡ true → is_nan f ≡ false
unfolding lt is_nan
number nan h = absurd (true≢false (sym h))
number (inf s) h = refl
number (fin s m e) h = refl

-- Whether a float is a fraction of a day: one below one is told by its pattern to be below zero or not, and another is
-- none.
pub by_bits : (f : Float) → T (fits binary64 f) → (below : lt f one_float ≡ true) → leb (to_bits binary64 f) (2 ^ 63) ≡ is_fraction f
unfolding is_fraction
by_bits f float below = by_pattern f float (number f below) ∙ simp (below, and-true)

pub is_fraction_lem : (f : Float) → T (fits binary64 f) → lt f one_float ≡ true → to_bits binary64 f ≤ 2 ^ 63 → T (is_fraction f)
is_fraction_lem f float below l = subst T (sym (le-leb _ _ l) ∙ by_bits f float below) tt

pub not_below_one : (f : Float) → lt f one_float ≡ false → lt f one_float ≡ is_fraction f
unfolding is_fraction
not_below_one f past = simp (past, and-false)

-- By whether it is a fraction of a day.
pub settled_fraction : (day : ℕ) (f : Float) → 0 < day → T (is_fraction f) → Some (count_of day f) ≡ settled_of day f
unfolding settled_of
settled_fraction day f some t = simp (lt-ltb 0 day some, is_true (is_fraction f) t)

pub settled_none : (day : ℕ) (f : Float) → (T (is_fraction f) → ⊥) → None ≡ settled_of day f
unfolding settled_of
settled_none day f never = simp (is_false (is_fraction f) (not_T (is_fraction f) never), and-false)
