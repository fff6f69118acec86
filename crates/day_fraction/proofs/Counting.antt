-- The count that the code finds.
use Prim.Native.Nat.{ℕ, ◌+◌, ◌^◌, ◌<◌}
use mathlib.Core.Path.{◌≡◌, refl, ap, ◌∙◌}
use mathlib.Core.Bool.{Bool, true, false}
use native.Mathlib.Omega.{arith}
use lib.Dec.{T}
use lib.IntN.{pos}
use lib.Ieee.{Float, fin, binary64, of_int, add, sub, div, le, fits}
use Rattle.std.specs.Int.{from_bool}
use Rattle.day_fraction.specs.Settling.{is_fraction, count_of, bit}
use Rattle.day_fraction.proofs.Guessing.{sum_of, guess_of, near, guess_float, next_float}
use Rattle.day_fraction.proofs.Largest.{found, count_below}

is_bit : (b : Bool) → from_bool b ≡ bit b
is_bit true = refl
is_bit false = refl

pub as_bit : {x : ℕ} {b test : Bool} → x ≡ from_bool b → b ≡ test → x ≡ bit test
as_bit {x} {b} is e = is ∙ is_bit b ∙ ap bit e

module _ (day : ℕ) (f : Float) (some : 0 < day) (few : day < 2 ^ 16) (float : T (fits binary64 f)) (t : T (is_fraction f)) where
  abbrev whole : Float
  whole = sub binary64 (sum_of day f) (fin false 1 (pos 52))

  abbrev passes : Float → ℕ
  passes x = bit (le (div binary64 x (of_int binary64 (pos day))) f)

  pub total : {x y : ℕ} → x ≡ passes whole → y ≡ passes (add binary64 whole (fin false 1 (pos 0)))
      → (guess_of day f + x + y ≡ count_of day f + 1) × (count_of day f < day)
  total {x} {y} at after =
      let guessed = near day f some few t in
      let sum = found day some few f float t (guess_of day f) guessed.at_least guessed.at_most in
      let one = at ∙ ap passes (guess_float day f some few t) in
      let next = after ∙ ap passes (next_float day f some few t) in
      (omega (arith, sum, one, next), count_below day some few f float t)
