-- Answers fit: heads leave room in 32 bits for the days that follow, and a date's year fits two bytes.
use Prim.Native.Nat.{ℕ, ◌^◌, ◌≤◌, ◌<◌}
use mathlib.Core.Path.{◌≡◌, subst, ap, sym}
use native.Mathlib.Omega.{arith}
use Rattle.calendar.specs.Systems.{constants_of, years_elapsed}
use Rattle.calendar.proofs.EachSystem.{consistent}
use Rattle.calendar.proofs.Reckoned.{reckoned}
use Rattle.calendar.proofs.Spans.{within}
use Rattle.reckoning.specs.Answers.{MonthAnswer, DateAnswer}
use Rattle.reckoning.specs.Requests.{month_of, date_of}
use Rattle.reckoning.specs.Outcomes.{MonthOutcome, DateOutcome}
use Rattle.reckoning.proofs.ScopeInRegister.{year_in_register}
use Rattle.reckoning.proofs.RequestsEnd.{month_outcome, date_outcome}

pub record MonthFits (v : MonthAnswer) : Type 0 where
  pub head_small : v.head.0 < 2 ^ 31
  pub length_most : v.length ≤ 30

pub month_fits : (system year number leap : ℕ) (v : MonthAnswer) → v ≡ month_of system year number leap → v.refusal ≡ 0 → MonthFits v
month_fits system year number leap v e z = go (subst (MonthOutcome system year number leap) (sym e) (month_outcome system year number leap))
  where
    go : MonthOutcome system year number leap v → MonthFits v
    go (MonthOutcome.system_refused w f) = absurd (omega (arith, ap (λ m. m.refusal) f))
    go (MonthOutcome.year_refused i w f) = absurd (omega (arith, ap (λ m. m.refusal) f))
    go (MonthOutcome.month_refused s w f) = absurd (omega (arith, ap (λ m. m.refusal) f))
    go (MonthOutcome.leap_refused s i w told l f) = absurd (omega (arith, ap (λ m. m.refusal) f))
    go (MonthOutcome.found m) =
        let c = constants_of system in
        let w = within c (consistent system) (years_elapsed c year) m.k m.numbered.in_year in
        record {
          head_small = omega (arith, (year_in_register system year m.in_scope.year_inside).head m.k w.0 (omega arith));
          length_most = omega (arith, (reckoned c (consistent system)).month_most m.k);
        }

-- A date's year fits two bytes.
pub date_fits : (system r : ℕ) {v : DateAnswer} → v ≡ date_of system r → v.refusal ≡ 0 → v.year < 2 ^ 16
date_fits system r {v} e z = go (subst (DateOutcome system r) (sym e) (date_outcome system r))
  where
    go : DateOutcome system r v → v.year < 2 ^ 16
    go (DateOutcome.system_refused w f) = absurd (omega (arith, ap (λ d. d.refusal) f))
    go (DateOutcome.day_refused i w f) = absurd (omega (arith, ap (λ d. d.refusal) f))
    go (DateOutcome.found f) = omega (arith, f.in_scope.year_inside)
