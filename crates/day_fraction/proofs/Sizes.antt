-- Floats that are finite and not below zero: their order is that of the fractions that they are.
use Prim.Native.Nat.{ℕ, zero, suc, ◌+◌, ◌*◌, ◌≤◌, ◌<◌}
use mathlib.Core.Path.{◌≡◌, ap, ◌∙◌}
use mathlib.Core.Bool.{Bool, true, false, not, ◌&&◌, ◌||◌}
use native.Mathlib.Nat.{zero-mul, mul-pos}
use native.Mathlib.Omega.{arith}
use native.Mathlib.Decide.{dec_lt}
use lib.IntN.{ℤ}
use lib.Dec.{T, ltb, eqb, eqb→eq, ltb→lt, lt→ltb}
use lib.Ieee.{Float, nan, inf, fin, up, down, is_nan, le, lt}
use lib.Ieee.Fits.{up_pos, down_pos, and_l, and_r, and_i, eq→eqb}
use lib.Ieee.Positive.{num, den}
use Rattle.day_fraction.specs.Fraction.{zero_float, one_float}
use Rattle.day_fraction.specs.Settling.{is_fraction}

-- Finite and not below zero, negative zero among them.
abbrev pub is_size : Float → Bool
is_size nan = false
is_size (inf s) = false
is_size (fin false m e) = true
is_size (fin true m e) = eqb m 0

pub size_number : (x : Float) → T (is_size x) → T (not (is_nan x))
unfolding is_nan
size_number nan s = absurd s
size_number (inf b) s = absurd s
size_number (fin b m e) s = tt

-- With no digits it is zero.
pub no_digits : (m x : ℕ) → T (eqb m 0) → m * x ≡ 0
no_digits m x t = ap (λ k. k * x) (eqb→eq m 0 t) ∙ zero-mul x

-- With some it is not.
pub some_digits : (m : ℕ) (e : ℤ) → 0 < suc m * up e
some_digits m e = mul-pos {m = suc m} {n = up e} (omega arith) (up_pos e)

none : (m x y : ℕ) → T (eqb m 0) → m * x * y ≡ 0
none m x y t = ap (λ k. k * y) (no_digits m x t) ∙ zero-mul y

below_or_level : (a b : ℕ) (x y : Bool) → (T x → a < b) → (T y → a ≡ b) → T (x || (y && true)) → a ≤ b
below_or_level a b true y f g t = let h = f tt in omega arith
below_or_level a b false true f g t = let h = g tt in omega arith
below_or_level a b false false f g t = absurd t

pub le→sizes : (x y : Float) → T (is_size x) → T (is_size y) → T (le x y) → num x * den y ≤ num y * den x
unfolding le
le→sizes nan y p q h = absurd p
le→sizes (inf s) y p q h = absurd p
le→sizes (fin s m e) nan p q h = absurd q
le→sizes (fin s m e) (inf t) p q h = absurd q
le→sizes (fin false m e) (fin false n d) p q h =
    let a = m * up e * down d in
    let b = n * up d * down e in
    below_or_level a b (ltb a b) (eqb a b) (ltb→lt a b) (eqb→eq a b) h
le→sizes (fin false m e) (fin true n d) p q h =
    let a = m * up e * down d in
    let b = n * up d * down e in
    let is = eqb→eq a b (and_l (eqb a b) (eqb a 0) h) in
    omega arith
le→sizes (fin true m e) (fin t n d) p q h = omega (arith, none m (up e) (down d) p)

below_of_lt : (a b : ℕ) (y : Bool) → a < b → T (ltb a b || y)
below_of_lt a b y h = or_true (ltb a b) y (lt→ltb a b h)
  where
    or_true : (x y : Bool) → T x → T (x || y)
    or_true true y t = tt
    or_true false y t = absurd t

level_of : (x y : Bool) → T y → T (x || y)
level_of true y t = tt
level_of false y t = t

pub sizes→le : (x y : Float) → T (is_size x) → T (is_size y) → num x * den y ≤ num y * den x → T (le x y)
unfolding le
sizes→le nan y p q h = absurd p
sizes→le (inf s) y p q h = absurd p
sizes→le (fin s m e) nan p q h = absurd q
sizes→le (fin s m e) (inf t) p q h = absurd q
sizes→le (fin false m e) (fin false n d) p q h =
    let a = m * up e * down d in
    let b = n * up d * down e in
    elim (dec_lt a b) [
      | yes l ↦ below_of_lt a b (eqb a b && true) l
      | no l ↦ level_of (ltb a b) (eqb a b && true) (and_i (eqb a b) true (eq→eqb {a = a} {b = b} (omega arith)) tt)
    ]
sizes→le (fin false m e) (fin true n d) p q h =
    let a = m * up e * down d in
    let b = n * up d * down e in
    let z = none n (up d) (down e) q in
    and_i (eqb a b) (eqb a 0) (eq→eqb {a = a} {b = b} (omega arith)) (eq→eqb {a = a} {b = 0} (omega arith))
sizes→le (fin true m e) (fin false n d) p q h =
    let a = m * up e * down d in
    let b = n * up d * down e in
    let z = none m (up e) (down d) p in
    elim (dec_lt a b) [
      | yes l ↦ below_of_lt 0 (a + b) (eqb a b && eqb a 0) (omega arith)
      | no l ↦
          level_of (ltb 0 (a + b)) (eqb a b && eqb a 0)
          (and_i (eqb a b) (eqb a 0) (eq→eqb {a = a} {b = b} (omega arith)) (eq→eqb {a = a} {b = 0} (omega arith)))
    ]
sizes→le (fin true m e) (fin true n d) p q h =
    let a = m * up e * down d in
    let b = n * up d * down e in
    let y = none m (up e) (down d) p in
    let z = none n (up d) (down e) q in
    level_of (ltb b a) (eqb a b && true) (and_i (eqb a b) true (eq→eqb {a = a} {b = b} (omega arith)) tt)

-- A fraction of a day is one of them, and below one.
pub fraction_size : (f : Float) → T (is_fraction f) → T (is_size f) × (num f < den f)
unfolding is_fraction le lt
fraction_size nan t = absurd t
fraction_size (inf true) t = absurd t
fraction_size (inf false) t = absurd t
fraction_size (fin false m e) t =
    let a = m * up e * 1 in
    let b = 1 * 1 * down e in
    let below = ltb→lt a b (and_r (le zero_float (fin false m e)) (ltb a b) t) in
    (tt, omega arith)
fraction_size (fin true zero e) t = (tt, omega (arith, zero-mul (up e), down_pos e))
fraction_size (fin true (suc m) e) t =
    let a = 0 * 1 * down e in
    let b = suc m * up e * 1 in
    let level = and_l (eqb a b && eqb a 0) (lt (fin true (suc m) e) one_float) t in
    let same = eqb→eq a b (and_l (eqb a b) (eqb a 0) level) in
    absurd (omega (arith, zero-mul (down e), some_digits m e))

-- And what is one of them and below one is a fraction of a day.
pub not_below_zero : (x : Float) → T (is_size x) → T (le zero_float x)
not_below_zero x s = sizes→le zero_float x tt s (omega (arith, zero-mul (den x)))

below_one : (x : Float) → T (is_size x) → num x < den x → T (lt x one_float)
unfolding lt
below_one nan s h = absurd s
below_one (inf b) s h = absurd s
below_one (fin false m e) s h = lt→ltb (m * up e * 1) (1 * 1 * down e) (omega arith)
below_one (fin true m e) s h = lt→ltb 0 (m * up e * 1 + 1 * 1 * down e) (omega (arith, down_pos e))

pub size_fraction : (x : Float) → T (is_size x) → num x < den x → T (is_fraction x)
unfolding is_fraction
size_fraction x s h = and_i (le zero_float x) (lt x one_float) (not_below_zero x s) (below_one x s h)
