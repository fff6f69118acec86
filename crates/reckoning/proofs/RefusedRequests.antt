-- Direct requests are refused by their table, and then answer their blank.
use Prim.Native.Nat.{ℕ}
use mathlib.Core.Path.{◌≡◌, refl, sym, ◌∙◌}
use mathlib.Core.Logic.{inl, inr}
use native.Mathlib.Omega.{arith}
use Rattle.calendar.specs.declared.data.Constants.{Constants}
use Rattle.calendar.proofs.Rising.{by_order}
use Rattle.reckoning.specs.WordedRefusals.{FirstOf, year_rows, step_rows, qi_rows, pentad_rows}
use Rattle.reckoning.specs.ComputedRefusals.{year_refusal, step_refusal, qi_refusal, pentad_refusal}
use Rattle.reckoning.specs.Divisions.{Division, qis, pentads}
use Rattle.reckoning.specs.Asked.{asked_of}
use Rattle.reckoning.specs.Requests.{answer_unless, no_moment, step_in, step_of, qi_of, pentad_of}
use Rattle.reckoning.specs.Requests.{year_in, no_year, year_of, sheet_in, no_sheet, sheet_of}
use Rattle.reckoning.proofs.RefusalCases.{by_scope, in_scope, in_scope_step, step_unseen, step_refused}
use Rattle.reckoning.proofs.AnswerUnless.{refused}

pub year_refusal_first : (system year : ℕ) → FirstOf (year_rows system year) (year_refusal system year)
year_refusal_first system year =
    by_scope system year
    (λ no_system e. inl (e, no_system))
    (λ i no_year_lem e. inr (λ w. w i, inl (e, no_year_lem)))
    (λ s. inr (λ w. w s.system_inside, inr (λ w. w s.year_inside, in_scope system year s)))

step_refusal_first : (most system year i : ℕ) → FirstOf (step_rows most system year i) (step_refusal most system year i)
step_refusal_first most system year i =
    by_scope system year
    (λ no_system e. inl (sym (step_unseen most system year i (λ z. omega arith)) ∙ e, no_system))
    (λ s no_year_lem e. inr (λ w. w s, inl (sym (step_unseen most system year i (λ z. omega arith)) ∙ e, no_year_lem)))
    (λ s.
    inr (
      λ w. w s.system_inside,
      inr (
        λ w. w s.year_inside,
        by_order most i
            (λ h. inl (step_refused most system year i s h, h))
            (λ h. inr (λ w. omega arith, in_scope_step most system year i s h)),
      ),
    ))

pub qi_refusal_first : (system year i : ℕ) → FirstOf (qi_rows system year i) (qi_refusal system year i)
qi_refusal_first = step_refusal_first 24

pub pentad_refusal_first : (system year p : ℕ) → FirstOf (pentad_rows system year p) (pentad_refusal system year p)
pentad_refusal_first = step_refusal_first 71

-- Refused, each gives its blank with the number.
blank_given : {A : Type 0} (answer : Constants → ℕ → A) (blank : ℕ → A) (refusal system year : ℕ) → (refusal ≡ 0 → ⊥)
    → answer_unless refusal system year answer blank ≡ blank refusal
blank_given answer blank refusal system year some =
    sym (refused answer blank (asked_of refusal system year) (asked_of refusal system year) refl some)

module _ (system year : ℕ) (some : year_refusal system year ≡ 0 → ⊥) where
  pub year_blank : year_of system year ≡ no_year (year_refusal system year)
  unfolding year_of
  year_blank = blank_given year_in no_year (year_refusal system year) system year some

  pub sheet_blank : sheet_of system year ≡ no_sheet (year_refusal system year)
  unfolding sheet_of
  sheet_blank = blank_given sheet_in no_sheet (year_refusal system year) system year some

step_blank : (division : Division) (system year i : ℕ) → (step_refusal division.last system year i ≡ 0 → ⊥)
    → step_of division system year i ≡ no_moment (step_refusal division.last system year i)
unfolding step_of
step_blank division system year i some =
    blank_given (λ c n. step_in division.steps (division.units c) i c n) no_moment (step_refusal division.last system year i) system year some

pub qi_blank : (system year i : ℕ) → (qi_refusal system year i ≡ 0 → ⊥) → qi_of system year i ≡ no_moment (qi_refusal system year i)
qi_blank = step_blank qis

pub pentad_blank : (system year p : ℕ) → (pentad_refusal system year p ≡ 0 → ⊥)
    → pentad_of system year p ≡ no_moment (pentad_refusal system year p)
pentad_blank = step_blank pentads
