-- The rules for submerged and extinguished days, over any numbers that meet the list.
use Prim.Native.Nat.{ℕ, ◌+◌, ◌*◌, ◌-◌, ◌/◌, ◌≤◌, ◌<◌}
use mathlib.Core.Path.{◌≡◌, refl, sym, ap, subst, ◌∙◌}
use mathlib.Core.Logic.{◌↔◌}
use native.Mathlib.Nat.{mul-pos, mul-le-mul_left, mul-le-mul_right, le-div_iff_mul-le, div-lt_iff_lt-mul}
use native.Mathlib.Omega.{arith}
use borrow.Author.Tests.{lt-ltb, le-ltb}
use Rattle.std.proofs.Common.{Option, Some, None}
use Rattle.calendar.specs.declared.data.Constants.{Constants}
use Rattle.calendar.proofs.Division.{cut_down, cut_down_is}
use Rattle.calendar.proofs.Rising.{by_order}
use Rattle.submerged_extinguished.specs.declared.rules.Rule.{Rule}
use Rattle.submerged_extinguished.specs.Distances.{SubmergedDistance, SubmergedSays, ExtinguishedSays}
use Rattle.submerged_extinguished.specs.RuleHolds.{RuleHolds}
use Rattle.submerged_extinguished.specs.Answers.{exact_remainder, submerged_by, extinguished_by}

-- Parts and small units below their bounds are less than a day.
pub remainder_below : (c : Constants) (parts units : ℕ) → parts < c.solar → units < c.units
    → exact_remainder c parts units < c.solar * c.units
remainder_below c parts units p q =
    let next : parts + 1 ≤ c.solar = omega arith in omega (arith, mul-le-mul_right c.units next)

module _ (c : Constants) (rule : Rule) (ok : RuleHolds c rule) where
  abbrev divisor : ℕ
  divisor = rule.divisor * c.units

  pub divisor_some : 0 < divisor
  divisor_some = mul-pos ok.divisor_some ok.units_some

  minuend_is : rule.minuend * c.units ≡ rule.multiplier * (c.solar * c.units) + divisor
  minuend_is = omega (arith, ap (λ x. x * c.units) ok.beyond_360)

  -- A remainder there can be: less than a day.
  module _ (r : ℕ) (below : r < c.solar * c.units) where
    abbrev difference : ℕ
    difference = rule.minuend * c.units - rule.multiplier * r

    abbrev days : ℕ
    days = difference / divisor

    -- something is left, a divisor at least
    pub left : rule.multiplier * r + divisor ≤ rule.minuend * c.units
    left = let most : r ≤ c.solar * c.units = omega arith in omega (arith, minuend_is, mul-le-mul_left rule.multiplier most)

    difference_is : difference + rule.multiplier * r ≡ rule.minuend * c.units
    difference_is = omega (arith, left)

    days_least : 1 ≤ days
    days_least = (le-div_iff_mul-le divisor_some).1 (omega (arith, left))

    pub days_most : rule.limit ≤ r → days ≤ 16
    days_most h =
        let l : days < 17 = (div-lt_iff_lt-mul divisor_some).1 (omega (arith, minuend_is, divisor_some, ok.limit_near, mul-le-mul_left rule.multiplier h)) in
        omega arith

    -- What is computed is what the rule says,
    pub submerged_says : SubmergedSays c rule r (submerged_by c rule r)
    unfolding submerged_by
    submerged_says =
        by_order r rule.limit
        (λ l. simp (lt-ltb r rule.limit l) l)
        (λ l.
        simp (le-ltb r rule.limit l)
        (l, record { difference = difference; is = difference_is; distance = cut_down difference divisor divisor_some }))

    after_is : (d : ℕ) → SubmergedDistance c rule r d → d ≡ days
    after_is d after =
        let same : after.difference ≡ difference = omega (arith, after.is, difference_is) in
        cut_down_is after.difference divisor divisor_some d after.distance ∙ ap (λ x. x / divisor) same

    -- and nothing else is.
    pub submerged_alone : (d : Option ℕ) → SubmergedSays c rule r d → d ≡ submerged_by c rule r
    unfolding submerged_by
    submerged_alone (Some d) says = simp (le-ltb r rule.limit says.0) (ap Some (after_is d says.1))
    submerged_alone None says = simp (lt-ltb r rule.limit says) refl

    -- Submerged distances are 1 to 16,
    pub submerged_range : (d : ℕ) → SubmergedSays c rule r (Some d) → (1 ≤ d) × (d ≤ 16)
    submerged_range d says =
        let is = after_is d says.1 in
        (omega (arith, days_least), omega (arith, days_most says.0))

    -- and there is none exactly below the limit.
    pub none_below : (submerged_by c rule r ≡ None) ↔ (r < rule.limit)
    none_below =
        (λ e. subst (SubmergedSays c rule r) e submerged_says, λ l. sym (submerged_alone None l))

  -- Extinguished days: what is computed is what the rule says, and nothing else is.
  pub extinguished_says : (r : ℕ) → ExtinguishedSays rule r (extinguished_by rule r)
  unfolding extinguished_by
  extinguished_says r =
      by_order r rule.shortfall
      (λ l. simp (lt-ltb r rule.shortfall l) (l, cut_down (30 * r) rule.shortfall ok.shortfall_some))
      (λ l. simp (le-ltb r rule.shortfall l) l)

  pub extinguished_alone : (r : ℕ) (d : Option ℕ) → ExtinguishedSays rule r d → d ≡ extinguished_by rule r
  unfolding extinguished_by
  extinguished_alone r (Some d) says =
      simp (lt-ltb r rule.shortfall says.0) (ap Some (cut_down_is (30 * r) rule.shortfall ok.shortfall_some d says.1))
  extinguished_alone r None says = simp (le-ltb r rule.shortfall says) refl

  -- Extinguished distances are 0 to 29,
  pub thirty_times : (r : ℕ) → r < rule.shortfall → 30 * r / rule.shortfall ≤ 29
  thirty_times r l =
      let below : 30 * r / rule.shortfall < 30 = (div-lt_iff_lt-mul ok.shortfall_some).1 (omega arith) in omega arith

  pub extinguished_range : (r d : ℕ) → ExtinguishedSays rule r (Some d) → d ≤ 29
  extinguished_range r d says =
      omega (arith, cut_down_is (30 * r) rule.shortfall ok.shortfall_some d says.1, thirty_times r says.0)

  -- and there is none exactly from the shortfall on.
  pub none_from : (r : ℕ) → (extinguished_by rule r ≡ None) ↔ (rule.shortfall ≤ r)
  none_from r = (λ e. subst (ExtinguishedSays rule r) e (extinguished_says r), λ l. sym (extinguished_alone r None l))
