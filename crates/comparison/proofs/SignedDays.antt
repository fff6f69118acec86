-- A signed difference of two numbers of 32 bits is exact in 64.
use Prim.Native.Nat.{ℕ, zero, suc, ◌+◌, ◌^◌, ◌≤◌, ◌<◌}
use mathlib.Core.Path.{◌≡◌, subst, sym, ap₂, ◌∙◌}
use native.Mathlib.Omega.{arith}
use lib.Dec.{ltb}
use lib.IntN.{pos, ◌-ℤ◌}
use lib.Signed.{mag}
use mir.Syntax.{w64}
use mir.Val.{SFits, to_z, of_z}
use mir.Facts.{to_z-of_z, to_z_pos}
use Rattle.calendar.proofs.Cases.{by_bool}

mag_most : (x y : ℕ) → mag (pos x -ℤ pos y) ≤ x + y
mag_most x zero = omega arith
mag_most x (suc y) = by_bool (ltb x (suc y)) (λ e. simp e (omega arith)) (λ e. simp e (omega arith))

module _ (x y : ℕ) (fits_x : x < 2 ^ 32) (fits_y : y < 2 ^ 32) where
  as_signed : to_z w64 x -ℤ to_z w64 y ≡ pos x -ℤ pos y
  as_signed = ap₂ (λ m n. m -ℤ n) (to_z_pos w64 {n = x} (omega arith)) (to_z_pos w64 {n = y} (omega arith))

  pub difference_fits : SFits w64 (to_z w64 x -ℤ to_z w64 y)
  difference_fits = subst (SFits w64) (sym as_signed) (record { sfits = omega (arith, mag_most x y) })

  pub difference_exact : to_z w64 (of_z w64 (to_z w64 x -ℤ to_z w64 y)) ≡ pos x -ℤ pos y
  difference_exact = to_z-of_z difference_fits ∙ as_signed
