-- Every export ends as the paper says.
use Prim.Native.Nat.{ℕ, ◌*◌, ◌^◌, ◌<◌}
use mathlib.Core.Path.{◌≡◌, refl, sym, ap, subst, ◌∙◌}
use mathlib.Core.Logic.{inl, inr}
use mathlib.Core.Bool.{false}
use mathlib.Core.List.{List, ◌++◌}
use native.Mathlib.Omega.{arith}
use native.Mathlib.Decide.{ℕ_discrete}
use lib.ListN.{length, drop}
use lib.Ieee.{binary64, round}
use Rattle.calendar.proofs.Rising.{by_order}
use Rattle.reckoning.specs.WordedRefusals.{FirstOf}
use Rattle.day_fraction.specs.Fraction.{fraction_of}
use Rattle.day_fraction.proofs.Rounding.{fraction_is}
use Rattle.exchange.specs.Systems.{HasExchange, parts_in_day}
use Rattle.exchange.specs.Row.{row_of}
use Rattle.exchange.specs.ExchangeRefusals.{export_refusals}
use Rattle.exchange.specs.Export.{export_refusal, export_answer, exported_into}
use Rattle.exchange.specs.Outcomes.{ExportOutcome}
use Rattle.exchange.proofs.DayParts.{by_exchange, exchange_inside}
use Rattle.exchange.proofs.Exporting.{no_exchange, no_time, no_room, none, refused, whole_parts, units_cut, written}

-- "Each fraction one division of the parts by D, rounded once."
pub rounded_once : (system parts : ℕ) → HasExchange system → parts < parts_in_day system
    → fraction_of (parts_in_day system) parts ≡ round binary64 false parts (parts_in_day system)
rounded_once system parts has below =
    let inside = exchange_inside system has in
    fraction_is (parts_in_day system) parts inside.0 (omega (arith, inside.1)) (omega (arith, inside.1))

-- Whatever the numbers, the export gives the first refusal that applies, and 0 where none does.
module _ (system parts room : ℕ) where
  pub export_refusal_is_the_first : FirstOf (export_refusals system parts room) (export_refusal system parts room)
  export_refusal_is_the_first =
      by_exchange system
      (λ has some few.
      inr (
        λ never. never has,
        by_order parts (parts_in_day system)
            (λ below.
            inr (
              λ past. omega arith,
              by_order room 13
                  (λ h. inl (no_room system parts room some below h, h))
                  (λ h. inr (λ short. omega arith, none system parts room some below h)),
            ))
            (λ past. inl (no_time system parts room some past, past)),
      ))
      (λ never z. inl (no_exchange system parts room z, never))

  accepted_inside : export_refusal system parts room ≡ 0 → HasExchange system × (parts < parts_in_day system)
  accepted_inside accepted =
      by_exchange system
      (λ has some few.
      by_order parts (parts_in_day system)
      (λ below. (has, below))
      (λ past. absurd (omega (arith, accepted, no_time system parts room some past))))
      (λ never z. absurd (omega (arith, accepted, no_exchange system parts room z)))

module _ (system day parts units : ℕ) (before : List ℕ) where
  abbrev answer : ℕ
  answer = export_answer system parts units (length before)

  abbrev after : List ℕ
  after = exported_into system day parts before

  abbrev refusal : ℕ
  refusal = export_refusal system parts (length before)

  -- and ends so.
  pub export_ends : ExportOutcome system day parts units before answer after
  export_ends = elim (ℕ_discrete refusal 0) [ yes accepted ↦ wrote accepted | no some ↦ gave some ]
    where
      gave : (refusal ≡ 0 → ⊥) → ExportOutcome system day parts units before answer after
      gave some =
          let end = refused system day parts units before refusal refl some in
          let number : answer ≡ refusal * 2 ^ 32 = omega (arith, end.0) in
          ExportOutcome.refused refusal (omega (arith, some)) (export_refusal_is_the_first system parts (length before)) number (sym end.1)

      wrote : refusal ≡ 0 → ExportOutcome system day parts units before answer after
      wrote accepted =
          let inside = accepted_inside system parts (length before) accepted in
          let f = fraction_of (parts_in_day system) parts in
          ExportOutcome.exported
          (subst (FirstOf (export_refusals system parts (length before))) accepted (export_refusal_is_the_first system parts (length before)))
          (λ z. sym (whole_parts system parts units (length before) accepted z))
          (λ some. sym (units_cut system parts units (length before) accepted some))
          (sym (written system day parts before accepted {row = row_of day f} refl)
          ∙ ap (λ x. row_of day x ++ drop 13 before) (rounded_once system parts inside.0 inside.1))
