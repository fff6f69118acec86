-- A day by its ordinal and a date are not refused LEAP, and no other refusal tells a month.
use mathlib.Core.Path.{◌≡◌, refl, subst, ap, sym}
use native.Mathlib.Omega.{arith}
use Rattle.reckoning.specs.declared.refusal.Refusal.{Refusal}
use Rattle.reckoning.specs.declared.refusal.Refusal.TheVariants.{Short, Kind, Length, System, Year, Month, Day, Output, Step, NotLeap, Retired, Time}
use Rattle.reckoning.specs.Answers.{OrdinalAnswer, DateAnswer}
use Rattle.reckoning.specs.RefusalNumbers.{LEAP, number_of, month_told}
use Rattle.reckoning.specs.Requests.{ordinal_day_of, date_of}
use Rattle.reckoning.specs.Outcomes.{OrdinalOutcome, DateOutcome}
use Rattle.reckoning.proofs.RequestsEnd.{ordinal_outcome, date_outcome}
use Prim.Native.Nat.{ℕ}

pub nothing_told_of : (r : Refusal) → (number_of r ≡ LEAP → ⊥) → month_told r ≡ 0
nothing_told_of Short other = refl
nothing_told_of Kind other = refl
nothing_told_of Length other = refl
nothing_told_of System other = refl
nothing_told_of Year other = refl
nothing_told_of Month other = refl
nothing_told_of Day other = refl
nothing_told_of Output other = refl
nothing_told_of Step other = refl
nothing_told_of (NotLeap month) other = absurd (other refl)
nothing_told_of Retired other = refl
nothing_told_of Time other = refl

pub ordinal_not_leap : (system year ordinal : ℕ) {d : OrdinalAnswer} → d ≡ ordinal_day_of system year ordinal → d.refusal ≡ LEAP → ⊥
ordinal_not_leap system year ordinal {d} e z =
    go (subst (OrdinalOutcome system year ordinal) (sym e) (ordinal_outcome system year ordinal))
  where
    go : OrdinalOutcome system year ordinal d → ⊥
    go (OrdinalOutcome.system_refused w f) = omega (arith, ap (λ x. x.refusal) f)
    go (OrdinalOutcome.year_refused i w f) = omega (arith, ap (λ x. x.refusal) f)
    go (OrdinalOutcome.day_refused i span out f) = omega (arith, ap (λ x. x.refusal) f)
    go (OrdinalOutcome.found f) = omega (arith, f.not_refused)

pub date_not_leap : (system r : ℕ) {d : DateAnswer} → d ≡ date_of system r → d.refusal ≡ LEAP → ⊥
date_not_leap system r {d} e z = go (subst (DateOutcome system r) (sym e) (date_outcome system r))
  where
    go : DateOutcome system r d → ⊥
    go (DateOutcome.system_refused w f) = omega (arith, ap (λ x. x.refusal) f)
    go (DateOutcome.day_refused i w f) = omega (arith, ap (λ x. x.refusal) f)
    go (DateOutcome.found f) = omega (arith, f.not_refused)
