-- The days of a year that was asked for, and its months by them.
use Prim.Native.Nat.{ℕ, ◌+◌, ◌-◌, ◌<◌, ◌≤◌}
use mathlib.Core.Path.{◌≡◌, refl, subst, subst₂, sym, ap, ap₂, ◌∙◌}
use mathlib.Core.Logic.{⊎_elim}
use native.Mathlib.Omega.{arith}
use borrow.Author.Tests.{lt-ltb, le-ltb}
use Rattle.calendar.specs.declared.data.Constants.{Constants}
use Rattle.calendar.specs.Systems.{constants_of, years_elapsed, register_day, count_day}
use Rattle.calendar.specs.Consistent.{Consistent}
use Rattle.calendar.specs.ClosedForms.{month_of_day, first_month, head_of_year}
use Rattle.calendar.proofs.Laws.{year_months, days_of_twelve, days_of_thirteen}
use Rattle.calendar.proofs.Spans.{span}
use Rattle.reckoning.specs.Answers.{DaysAnswer}
use Rattle.reckoning.specs.ComputedRefusals.{year_refusal}
use Rattle.reckoning.specs.RefusalNumbers.{SYSTEM}
use Rattle.reckoning.specs.Requests as Requests
use Rattle.reckoning.specs.Requests.{days_in, days_of}
use Rattle.reckoning.specs.Scope.{InScope}
use Rattle.reckoning.specs.WordBounds.{InRegister, YearInRegister, MonthsInRegister}
use Rattle.reckoning.proofs.AnswerUnless.{by_answer}
use Rattle.reckoning.proofs.HeadLaws.{month_of_head, is_its_months_head, count_day_lem, head_of}
use Rattle.reckoning.proofs.RefusalCases.{outside_of}
use Rattle.reckoning.proofs.RegisterLaws.{first_head, next_head_lem, months_in_register}
use Rattle.reckoning.proofs.ScopeInRegister.{year_in_register}
use Rattle.submerged_extinguished.specs.Records.{MoonsAnswer}
use Rattle.submerged_extinguished.specs.Rules.{last_rule, HasRule, rule_of}
use Rattle.submerged_extinguished.specs.Answers.{extinguished_from, no_days, extinguished_days_of}
use Rattle.submerged_extinguished.specs.Moons.{months_in}
use Rattle.submerged_extinguished.specs.WordBounds.{HeadFits}
use Rattle.submerged_extinguished.proofs.ExtinguishedEnds.{no_rule, days_refused, days_answered}

-- Year n within the register: its head is that of its first month, and its months are told by its days.
module _ (c : Constants) (n : ℕ) (r : YearInRegister c n) where
  abbrev ok : Consistent c
  ok = r.constants_fit.consistent

  abbrev head : ℕ
  head = register_day c (head_of_year c n)

  day_back : count_day c head ≡ head_of_year c n
  day_back = count_day_lem (head_of r) refl

  month_of_register_head : month_of_day c (count_day c head) ≡ first_month c n
  month_of_register_head = ap (month_of_day c) day_back ∙ month_of_head c ok n

  head_fits : HeadFits c head
  head_fits =
      record {
        constants_fit = r.constants_fit;
        in_register = subst (InRegister c) (sym day_back) (first_head c n r);
        back = ap (register_day c) day_back;
        begins_month = is_its_months_head n ok day_back;
      }

  months_by_days : months_in (register_day c (head_of_year c (n + 1)) - head) ≡ first_month c (n + 1) - first_month c n
  months_by_days =
      let a = first_head c n r in
      let b = next_head_lem c n r in
      let long = register_day c (head_of_year c (n + 1)) - head in
      let y = span c ok n in
      ⊎_elim
      (λ twelve.
      let short : long < 383 = ⊎_elim (λ e. omega arith) (λ e. omega arith) (days_of_twelve c ok y twelve) in
      simp (lt-ltb long 383 short) (sym twelve))
      (λ thirteen.
      let much : 383 ≤ long = ⊎_elim (λ e. omega arith) (λ e. omega arith) (days_of_thirteen c ok y thirteen) in
      simp (le-ltb long 383 much) (sym thirteen))
      (year_months c ok y)

pub returns_no_rule : (system year : ℕ) → (HasRule system → ⊥) → no_days SYSTEM ≡ extinguished_days_of system year
returns_no_rule system year none = sym (no_rule system year (outside_of 1 last_rule system none))

-- The days that were asked for: refused, or those of a year in scope.
module _ (system year : ℕ) {days : DaysAnswer} (asked : days ≡ days_of system year) where
  abbrev c : Constants
  c = constants_of system

  abbrev first : ℕ
  first = month_of_day c (count_day c days.head.0)

  by_days : {P : Type 0}
      → ((number : ℕ) → year_refusal system year ≡ number → 0 < number → days.refusal ≡ number → P)
      → (InScope system year → days ≡ days_in c (years_elapsed c year) → P)
      → P
  unfolding days_of
  by_days refused found =
      by_answer (λ v. v.refusal) Requests.no_days (λ number. refl) days_in system year asked
      (λ number e range carried is. refused number e range.at_least carried)
      found

  pub returns_refusal : {v : MoonsAnswer} → HasRule system → (days.refusal ≡ 0 → ⊥) → v ≡ no_days days.refusal
      → v ≡ extinguished_days_of system year
  returns_refusal has some is =
      by_days
      (λ number e positive carried. is ∙ ap no_days carried ∙ sym (days_refused system year has number e positive))
      (λ s given. absurd (some (ap (λ v. v.refusal) given)))

  module _ (none : days.refusal ≡ 0) {count : ℕ} (counted : count ≡ months_in days.length) where
    in_scope_days : {P : Type 0} → (InScope system year → days ≡ days_in c (years_elapsed c year) → P) → P
    in_scope_days found = by_days (λ number e positive carried. absurd (omega arith)) found

    -- Its first month and how many it has are those of the year.
    months_are : (s : InScope system year) → days ≡ days_in c (years_elapsed c year)
        → (first ≡ first_month c (years_elapsed c year))
        × (count ≡ first_month c (years_elapsed c year + 1) - first_month c (years_elapsed c year))
    months_are s given =
        let n = years_elapsed c year in
        let r = year_in_register system year s.year_inside in (
          ap (λ v. month_of_day c (count_day c v.head.0)) given ∙ month_of_register_head c n r,
          counted ∙ ap (λ v. months_in v.length) given ∙ months_by_days c n r,
        )

    pub months_fit : HeadFits c days.head.0 × MonthsInRegister c first count
    months_fit =
        in_scope_days
        (λ s given.
        let n = years_elapsed c year in
        let r = year_in_register system year s.year_inside in
        let are = months_are s given in (
          subst (HeadFits c) (sym (ap (λ v. v.head.0) given)) (head_fits c n r),
          subst₂ (MonthsInRegister c) (sym are.0) (sym are.1) (months_in_register c n r),
        ))

    pub returns_days : {v : MoonsAnswer} → HasRule system → v ≡ extinguished_from c (rule_of system) first count → v ≡ extinguished_days_of system year
    returns_days has is =
        in_scope_days
        (λ s given.
        let are = months_are s given in
        is ∙ ap₂ (extinguished_from c (rule_of system)) are.0 are.1 ∙ days_answered system year has s)
