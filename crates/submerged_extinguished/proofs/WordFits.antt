-- The code's numbers fit.
use Prim.Native.Nat.{ℕ, ◌*◌, ◌-◌, ◌/◌, ◌≤◌, ◌<◌}
use native.Mathlib.Omega.{arith}
use mir.Syntax.{w8, w64}
use mir.Val.{Fits}
use Rattle.calendar.specs.declared.data.Constants.{Constants}
use Rattle.submerged_extinguished.specs.declared.rules.Rule.{Rule}
use Rattle.submerged_extinguished.specs.WordBounds.{RuleFits}
use Rattle.submerged_extinguished.specs.Answers.{exact_remainder}
use Rattle.submerged_extinguished.proofs.RuleLaws.{remainder_below, left, days_most}

-- A remainder of parts and small units, below their bounds.
module _ {c : Constants} {rule : Rule} (f : RuleFits c rule) {parts units : ℕ} (p : parts < c.solar) (q : units < c.units) where
  abbrev r : ℕ
  r = exact_remainder c parts units

  below : r < c.solar * c.units
  below = remainder_below c parts units p q

  pub something_left : rule.multiplier * r ≤ rule.minuend * c.units
  something_left = omega (arith, left c rule f.holds r below)

  pub taken_fits : Fits w64 (rule.multiplier * r)
  taken_fits = omega (arith, something_left, f.minuend_small)

  pub days_fit : rule.limit ≤ r
      → Fits w8 ((rule.minuend * c.units - rule.multiplier * r) / (rule.divisor * c.units))
  days_fit h = omega (arith, days_most c rule f.holds r below h)
