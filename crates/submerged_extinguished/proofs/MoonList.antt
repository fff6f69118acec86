-- The new moons of a year as the code goes through them.
use Prim.Native.Nat.{ℕ, ◌+◌, ◌*◌, ◌-◌, ◌%◌, ◌<◌}
use mathlib.Core.Path.{◌≡◌, sym, ap, ◌∙◌}
use mathlib.Core.List.{List}
use native.Mathlib.Omega.{arith}
use lib.ListN.{set}
use Rattle.calendar.specs.declared.data.Constants.{Constants}
use Rattle.calendar.specs.Systems.{register_day, count_day}
use Rattle.calendar.specs.Month.{new_moon_remainder, month_head}
use Rattle.calendar.specs.ClosedForms.{month_of_day}
use Rattle.calendar.proofs.HeldQi.{remainder_below}
use Rattle.reckoning.specs.Filled.{filled}
use Rattle.reckoning.specs.WordBounds.{MonthsInRegister}
use Rattle.reckoning.proofs.FilledLaws.{filled_none, filled_more}
use Rattle.submerged_extinguished.specs.Records.{MoonsAnswer}
use Rattle.submerged_extinguished.specs.declared.data.DayDistance.{DayDistance}
use Rattle.submerged_extinguished.specs.declared.moons.Moon.{Moon}
use Rattle.submerged_extinguished.specs.declared.rules.Rule.{Rule}
use Rattle.submerged_extinguished.specs.Answers.{extinguished_at, no_moons, extinguished_from}
use Rattle.submerged_extinguished.specs.Moons.{moon_at, moon_after, extinguished_on}
use Rattle.submerged_extinguished.specs.RuleHolds.{RuleHolds}
use Rattle.submerged_extinguished.specs.WordBounds.{HeadFits, MoonFits}
use Rattle.submerged_extinguished.proofs.MoonLaws.{next_moon, left_of_day}

-- The first new moon, by the year's head r.
module _ {c : Constants} {r : ℕ} (f : HeadFits c r) where
  abbrev d : ℕ
  d = count_day c r

  pub first_moon_lem : {m : Moon} → m ≡ record { day = r; remainder = c.lunar - 1 - ((d + 1) * c.lunar - 1) % c.month }
      → m ≡ moon_at c (month_of_day c d)
  first_moon_lem is =
      let left : new_moon_remainder c (month_of_day c d) + ((d + 1) * c.lunar - 1) % c.month + 1 ≡ c.lunar =
      left_of_day c f.constants_fit.consistent d f.begins_month
      in
      let day : r ≡ register_day c (month_head c (month_of_day c d)) = sym f.back ∙ ap (register_day c) (sym f.begins_month) in
      let remainder : c.lunar - 1 - ((d + 1) * c.lunar - 1) % c.month ≡ (moon_at c (month_of_day c d)).remainder = omega (arith, left) in
      is ∙ (λ j. record { day = day j; remainder = remainder j })

-- So far i new moons are listed, and `moon` is the next, counted from the new moon of whatever month was the first.
pub record Listing (c : Constants) (rule : Rule) (count : ℕ) (start : Moon) (i : ℕ) (moons : List DayDistance) (moon : Moon) : Type 0 where
  pub so_far : (k : ℕ) → start ≡ moon_at c k → MonthsInRegister c k count
      → (moon ≡ moon_at c (k + i)) × (moons ≡ filled (λ j. extinguished_at c rule (k + j)) no_moons i)

module _ {c : Constants} {rule : Rule} {count : ℕ} {start : Moon} where
  pub listing_starts : {moons : List DayDistance} → moons ≡ no_moons → Listing c rule count start 0 moons start
  listing_starts is =
      record {
        so_far =
            λ k at there.
            let here : k ≡ k + 0 = omega arith in
            (at ∙ ap (moon_at c) here, is ∙ filled_none _ _);
      }

  module _ {i : ℕ} {moons : List DayDistance} {moon : Moon} (l : Listing c rule count start i moons moon) where
    pub moon_fits : (k : ℕ) → start ≡ moon_at c k → MonthsInRegister c k count → i < count → MoonFits c moon
    moon_fits k at there h =
        let is = (l.so_far k at there).0 in
        let day = ap (λ m. m.day) is in
        let remainder = ap (λ m. m.remainder) is in
        let ok = there.constants_fit.consistent in
        record {
          day_small = omega (arith, there.head i (omega arith));
          remainder_below = omega (arith, remainder_below c ok (k + i));
        }

    pub listing_more : {one : DayDistance} {next : Moon} → RuleHolds c rule → i < count → one ≡ extinguished_on rule moon → next ≡ moon_after c rule moon
        → Listing c rule count start (i + 1) (set moons i one) next
    listing_more holds h one-is next_is =
        record {
          so_far =
              λ k at there.
              let so = l.so_far k at there in
              let ok = there.constants_fit.consistent in
              let on : k + i + 1 ≡ k + (i + 1) = omega arith in (
                next_is
                    ∙ ap (moon_after c rule) so.0
                    ∙ next_moon c ok rule holds (k + i) (there.head i (omega arith))
                    ∙ ap (moon_at c) on,
                filled_more _ _ _ _ _ so.1 (one-is ∙ ap (extinguished_on rule) so.0),
              );
        }

  pub listing_all : {i : ℕ} {moons : List DayDistance} {moon : Moon} → Listing c rule count start i moons moon → i ≡ count
      → (k : ℕ) → start ≡ moon_at c k → MonthsInRegister c k count
      → ◌≡◌ {A = MoonsAnswer} (record { refusal = 0; count = count; moons = moons }) (extinguished_from c rule k count)
  unfolding extinguished_from
  listing_all l all k at there =
      let so = (l.so_far k at there).1 ∙ ap (filled (λ j. extinguished_at c rule (k + j)) no_moons) all in
      ap (λ a. record { refusal = 0; count = count; moons = a }) so
