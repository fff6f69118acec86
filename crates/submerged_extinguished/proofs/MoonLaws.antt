-- From one new moon to the next, and a month's new moon by its head.
use Prim.Native.Nat.{ℕ, ◌+◌, ◌*◌, ◌-◌, ◌%◌, ◌<◌, ◌≤◌}
use mathlib.Core.Path.{◌≡◌, sym, ap}
use mathlib.Core.Logic.{◌↔◌}
use native.Mathlib.Nat.{div-add-mod', div-eq_of_lt-le}
use native.Mathlib.Omega.{arith}
use borrow.Author.Tests.{lt-ltb, le-ltb}
use Rattle.calendar.specs.declared.data.Constants.{Constants}
use Rattle.calendar.specs.Systems.{register_day}
use Rattle.calendar.specs.Month.{new_moon, new_moon_remainder, month_head, month_length}
use Rattle.calendar.specs.Consistent.{Consistent}
use Rattle.calendar.specs.ClosedForms.{month_of_day}
use Rattle.calendar.proofs.HeldQi.{moon_told, remainder_below}
use Rattle.calendar.proofs.Rising.{by_order}
use Rattle.reckoning.specs.WordBounds.{InRegister}
use Rattle.submerged_extinguished.specs.declared.rules.Rule.{Rule}
use Rattle.submerged_extinguished.specs.RuleHolds.{RuleHolds}
use Rattle.submerged_extinguished.specs.Moons.{moon_at, moon_after}

module _ (c : Constants) (consistent : Consistent c) where
  module _ (rule : Rule) (ok : RuleHolds c rule) (k : ℕ) where
    abbrev r : ℕ
    r = new_moon_remainder c k

    abbrev later : ℕ → ℕ
    later days = (month_head c k + days) * c.lunar

    pub next_short : r < rule.shortfall
        → (month_head c (k + 1) ≡ month_head c k + 29) × (new_moon_remainder c (k + 1) ≡ r + c.lunar - rule.shortfall)
    next_short l =
        let all : new_moon c (k + 1) ≡ later 29 + (r + c.lunar - rule.shortfall) =
        omega (arith, moon_told c consistent k, ok.month_and_shortfall, consistent.months_least)
        in
        let head : month_head c (k + 1) ≡ month_head c k + 29 = div-eq_of_lt-le c.lunar (omega arith) (omega arith) in
        (head, omega (arith, moon_told c consistent (k + 1), ap (λ x. x * c.lunar) head))

    pub next_long : rule.shortfall ≤ r
        → (month_head c (k + 1) ≡ month_head c k + 30) × (new_moon_remainder c (k + 1) ≡ r - rule.shortfall)
    next_long l =
        let all : new_moon c (k + 1) ≡ later 30 + (r - rule.shortfall) = omega (arith, moon_told c consistent k, ok.month_and_shortfall) in
        let head : month_head c (k + 1) ≡ month_head c k + 30 =
        div-eq_of_lt-le c.lunar (omega arith) (omega (arith, remainder_below c consistent k))
        in
        (head, omega (arith, moon_told c consistent (k + 1), ap (λ x. x * c.lunar) head))

    -- A new moon has an extinguished day exactly when its month has 29 days.
    pub in_short_months : (r < rule.shortfall) ↔ (month_length c k ≡ 29)
    in_short_months = (
      λ l. omega (arith, (next_short l).0),
      λ e. by_order r rule.shortfall (λ l. l) (λ l. absurd (omega (arith, (next_long l).0))),
    )

    -- The next one as the code finds it.
    pub next_moon : InRegister c (month_head c k) → moon_after c rule (moon_at c k) ≡ moon_at c (k + 1)
    unfolding moon_after
    next_moon there =
        by_order r rule.shortfall
        (λ l.
        let next = next_short l in
        let day : register_day c (month_head c k) + 29 ≡ register_day c (month_head c (k + 1)) = omega (arith, there.from, next.0) in
        simp (lt-ltb r rule.shortfall l) (λ j. record { day = day j; remainder = sym next.1 j }))
        (λ l.
        let next = next_long l in
        let day : register_day c (month_head c k) + 30 ≡ register_day c (month_head c (k + 1)) = omega (arith, there.from, next.0) in
        simp (le-ltb r rule.shortfall l) (λ j. record { day = day j; remainder = sym next.1 j }))

  -- The new moon of a month, by the day that is its head.
  module _ (d : ℕ) (begins_month : month_head c (month_of_day c d) ≡ d) where
    abbrev left_over : ℕ
    left_over = ((d + 1) * c.lunar - 1) % c.month

    pub left_of_day : new_moon_remainder c (month_of_day c d) + left_over + 1 ≡ c.lunar
    left_of_day =
        omega (
          arith,
          consistent.lunar_some,
          div-add-mod' ((d + 1) * c.lunar - 1) c.month,
          moon_told c consistent (month_of_day c d),
          ap (λ x. x * c.lunar) begins_month,
        )
