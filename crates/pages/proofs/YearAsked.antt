-- What is answered of a year that was asked for.
use Prim.Native.Nat.{ℕ, ◌+◌, ◌≤◌, ◌<◌}
use mathlib.Core.Path.{◌≡◌, refl, ap, subst, sym, ◌∙◌}
use mathlib.Core.Logic.{⊎_elim}
use native.Mathlib.Omega.{arith}
use Rattle.calendar.specs.Systems.{constants_of, years_elapsed}
use Rattle.reckoning.specs.Answers.{DaysAnswer, SheetAnswer, MomentAnswer, YearAnswer}
use Rattle.reckoning.specs.RefusalNumbers.{SYSTEM, YEAR}
use Rattle.reckoning.specs.Requests.{year_of, days_in, no_days, days_of, sheet_of, qi_of, pentad_of}
use Rattle.reckoning.specs.ComputedRefusals.{pentad_refusal}
use Rattle.reckoning.specs.Scope.{InScope}
use Rattle.reckoning.specs.YearValue.{Tiled, head_in}
use Rattle.pages.specs.Printable.{Printable}
use Rattle.reckoning.proofs.AnswerUnless.{refused_year, answered_year}
use Rattle.reckoning.proofs.RegisterLaws.{register_length_most}
use Rattle.reckoning.proofs.ScopeInRegister.{year_in_register}
use Rattle.reckoning.proofs.MonthsRight.{year_tiled, year_carries}
use Rattle.reckoning.proofs.RefusalCases.{accepted, accepted_step, by_scope}
use Rattle.reckoning.proofs.RefusedRequests.{pentad_blank}
use Rattle.reckoning.proofs.AnswersRight.{qi_holds, pentad_holds, sheet_holds}
use Rattle.calendar.proofs.Rising.{by_order}

pub head_rises : (months : YearAnswer) (i : ℕ) → Tiled months → i < months.count → head_in months i ≤ head_in months (i + 1)
head_rises months i t h = ⊎_elim (λ e. omega arith) (λ e. omega arith) (t.days i h)

-- A year that carries no refusal is in scope, and has months that tile it.
pub year_in_scope : {months : YearAnswer} (system year : ℕ) → months ≡ year_of system year → months.refusal ≡ 0 → InScope system year
year_in_scope system year is none =
    accepted system year (sym (ap (λ v. v.refusal) is ∙ year_carries system year) ∙ none)

accepted_tiled : (system year : ℕ) → (year_of system year).refusal ≡ 0 → Tiled (year_of system year)
accepted_tiled system year none = year_tiled system year (year_in_scope system year refl none)

pub printable : {months : YearAnswer} (system year : ℕ) → months ≡ year_of system year → months.refusal ≡ 0 → Printable months
printable system year is none =
    let t = subst Tiled (sym is) (accepted_tiled system year (sym (ap (λ v. v.refusal) is) ∙ none)) in
    record { tiled = t; thirteen_at_most = ⊎_elim (λ e. omega arith) (λ e. omega arith) t.months }

-- A sheet has room for the days of its year.
days_most : (system year : ℕ) → (days_of system year).length ≤ 384
unfolding days_of
days_most system year =
    by_scope system year
    (λ no_system e. omega (arith, ap (λ v. v.length) (refused_year days_in no_days system year SYSTEM e (omega arith))))
    (λ system_inside no_year_lem e.
    omega (arith, ap (λ v. v.length) (refused_year days_in no_days system year YEAR e (omega arith))))
    (λ s.
    let c = constants_of system in
    let most = register_length_most c (years_elapsed c year) (year_in_register system year s.year_inside) in
    omega (arith, ap (λ v. v.length) (answered_year days_in no_days system year s)))

pub days_within : {days : DaysAnswer} (system year : ℕ) → days ≡ days_of system year → days.length ≤ 384
days_within system year is = subst (λ d. d.length ≤ 384) (sym is) (days_most system year)

-- Of a year in scope nothing is refused: its days, its sheet, a qi or a pentad.
module _ (system year : ℕ) (s : InScope system year) where
  pub days_given : {days : DaysAnswer} → days ≡ days_of system year → days.refusal ≡ 0
  unfolding days_of
  days_given is = ap (λ d. d.refusal) (is ∙ sym (answered_year days_in no_days system year s))

  pub sheet_given : {sheet : SheetAnswer} → sheet ≡ sheet_of system year → sheet.refusal ≡ 0
  sheet_given is = ap (λ d. d.refusal) is ∙ (sheet_holds system year s).accepted

  pub qi_given : (i : ℕ) → i < 25 → (qi_of system year i).refusal ≡ 0
  qi_given i h = (qi_holds system year s i (omega arith)).accepted

  pub pentad_given : (p : ℕ) → p < 72 → (pentad_of system year p).refusal ≡ 0
  pentad_given p h = (pentad_holds system year s p (omega arith)).accepted

-- One whose first pentad is not refused is in scope.
pub pentads_in_scope : {first : MomentAnswer} (system year : ℕ) → first ≡ pentad_of system year 0 → first.refusal ≡ 0 → InScope system year
pentads_in_scope system year is none =
    by_order 0 (pentad_refusal system year 0)
    (λ some. absurd (omega (arith, ap (λ m. m.refusal) is, none, ap (λ m. m.refusal) (pentad_blank system year 0 (λ z. omega arith)))))
    (λ zero. (accepted_step 71 system year 0 (omega arith)).0)
