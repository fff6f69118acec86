-- The parts in a day of a system that has an exchange.
use Prim.Native.Nat.{ℕ, ◌^◌, ◌<◌}
use mathlib.Core.Path.{◌≡◌, sym, ap, subst, ◌∙◌}
use mathlib.Core.Logic.{inl, inr, ⊎_elim}
use native.Mathlib.Omega.{arith}
use native.Mathlib.Decide.{ℕ_discrete}
use borrow.Author.Tests.{eq-eqb, ne_eqb}
use Rattle.std.specs.Prelude.{Option, None, Some, MatchOption, Err, ok_or}
use Rattle.calendar.specs.Systems.{guantian, jiyuan}
use Rattle.reckoning.specs.declared.refusal.Refusal.{Refusal}
use Rattle.reckoning.specs.declared.refusal.Refusal.TheVariants as Refused
use Rattle.reckoning.specs.RefusalNumbers.{SYSTEM, number_of}
use Rattle.reckoning.specs.Told.{told_refusal}
use Rattle.exchange.specs.Systems.{HasExchange, parts_in_day}

module _ (system : ℕ) where
  parts_1 : system ≡ 1 → guantian.solar ≡ parts_in_day system
  parts_1 is = simp (eq-eqb system 1 is)

  parts_2 : system ≡ 2 → jiyuan.solar ≡ parts_in_day system
  parts_2 is = simp (ne_eqb system 1 (λ e. omega arith), eq-eqb system 2 is)

  parts_none : (system ≡ 1 → ⊥) → (system ≡ 2 → ⊥) → 0 ≡ parts_in_day system
  parts_none not_1 not-2 = simp (ne_eqb system 1 not_1, ne_eqb system 2 not-2)

-- A system has an exchange, and D is above 0 and below 2^16; or it has none.
pub by_exchange : {P : Type 0} (system : ℕ) → (HasExchange system → 0 < parts_in_day system → parts_in_day system < 2 ^ 16 → P)
    → ((HasExchange system → ⊥) → parts_in_day system ≡ 0 → P)
    → P
by_exchange system has none =
    elim (ℕ_discrete system 1) [
      | yes one ↦ has (inl one) (omega (arith, parts_1 system one)) (omega (arith, parts_1 system one))
      | no not_1 ↦
          elim (ℕ_discrete system 2) [
            | yes two ↦ has (inr two) (omega (arith, parts_2 system two)) (omega (arith, parts_2 system two))
            | no not-2 ↦ none (⊎_elim not_1 not-2) (sym (parts_none system not_1 not-2))
          ]
    ]

-- The same of one that has an exchange.
pub exchange_inside : (system : ℕ) → HasExchange system → (0 < parts_in_day system) × (parts_in_day system < 2 ^ 16)
exchange_inside system has = by_exchange system (λ h some few. (some, few)) (λ never z. absurd (never has))

-- What the code is given of them, and the refusal where there are none.
module _ (system : ℕ) {o : Option ℕ} (told : MatchOption o (parts_in_day system ≡ 0) (λ parts. (parts ≡ parts_in_day system) × (0 < parts))) where
  found : {p : Option ℕ} → o ≡ p → MatchOption p (parts_in_day system ≡ 0) (λ parts. (parts ≡ parts_in_day system) × (0 < parts))
  found is = subst (λ p. MatchOption p (parts_in_day system ≡ 0) (λ parts. (parts ≡ parts_in_day system) × (0 < parts))) is told

  pub day_given : {parts : ℕ} → o ≡ Some parts → (parts ≡ parts_in_day system) × (0 < parts)
  day_given some = found some

  pub day_lacking : {e : Refusal} → o ≡ None → Err e ≡ ok_or o Refused.System → (parts_in_day system ≡ 0) × (number_of e ≡ SYSTEM)
  day_lacking none is = (found none, ap told_refusal is ∙ ap (λ p. told_refusal (ok_or p Refused.System)) none)
