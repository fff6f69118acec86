-- How a request's answer follows from what it stands on: one law for every request.
use Prim.Native.Nat.{ℕ, ◌<◌}
use mathlib.Core.Path.{◌≡◌, refl, ◌∙◌, subst, sym, ap}
use mathlib.Core.Bool.{Bool, false}
use native.Mathlib.Omega.{arith}
use borrow.Author.Tests.{eq-eqb, ne_eqb}
use Rattle.calendar.specs.declared.data.Constants.{Constants}
use Rattle.calendar.specs.Inside.{Inside}
use Rattle.calendar.specs.Systems.{last_system, constants_of, years_elapsed}
use Rattle.reckoning.specs.ComputedRefusals.{out_of_years, year_refusal}
use Rattle.reckoning.specs.RefusalNumbers.{SYSTEM, YEAR}
use Rattle.reckoning.proofs.RefusalCases.{inside_of, in_scope, accepted, by_inside, by_scope}
use Rattle.reckoning.specs.Asked.{Asked, asked_of}
use Rattle.reckoning.specs.Requests.{answer_to, answer_unless, answer_of_system, answer_of_year}
use Rattle.reckoning.specs.WordBounds.{YearInRegister}
use Rattle.reckoning.specs.Scope.{YearInScope, InScope}
use Rattle.reckoning.proofs.ScopeInRegister.{year_in_register}

module _ {A : Type 0} (answer : Constants → ℕ → A) (blank : ℕ → A) where
  abbrev answer_to_lem : Asked → A
  answer_to_lem a = answer_to a answer blank

  pub refused : (a b : Asked) → a ≡ b → (a.refusal ≡ 0 → ⊥) → blank a.refusal ≡ answer_to_lem b
  refused a b e no_answer = subst (λ x. blank a.refusal ≡ answer_to_lem x) e (simp (ne_eqb a.refusal 0 no_answer))

  pub answered : (a b : Asked) → a ≡ b → a.refusal ≡ 0 → answer a.c a.n ≡ answer_to_lem b
  answered a b e given = subst (λ x. answer a.c a.n ≡ answer_to_lem x) e (simp (eq-eqb a.refusal 0 given))

  -- a request by system and year, refused or answered
  pub refused_year : (system year refusal : ℕ) → year_refusal system year ≡ refusal → 0 < refusal
      → answer_unless (year_refusal system year) system year answer blank ≡ blank refusal
  refused_year system year refusal e some =
      let a = asked_of (year_refusal system year) system year in
      sym (refused a a refl (λ z. omega arith)) ∙ ap blank e

  pub answered_year : (system year : ℕ) → InScope system year
      → answer (constants_of system) (years_elapsed (constants_of system) year)
      ≡ answer_unless (year_refusal system year) system year answer blank
  answered_year system year s =
      let a = asked_of (year_refusal system year) system year in answered a a refl (in_scope system year s)

  -- by the constants that the system's number picks
  pub answered_here : (system year : ℕ) (c : Constants) → constants_of system ≡ c → year_refusal system year ≡ 0
      → answer c (years_elapsed c year) ≡ answer_unless (year_refusal system year) system year answer blank
  answered_here system year c e z =
      sym (ap (λ k. answer k (years_elapsed k year)) e)
      ∙ answered (asked_of (year_refusal system year) system year) _ refl z

pub year_tested : (year : ℕ) {b : Bool} → b ≡ out_of_years year → b ≡ false → YearInScope year
year_tested year test inside = inside_of 1 3000 year (sym test ∙ inside)

-- A request by system and year is refused SYSTEM or goes on by the system's constants, and then refused YEAR or answered.
pub system_then_year : {A : Type 0} (answer : Constants → ℕ → A) (blank : ℕ → A) (system year : ℕ)
    → answer_of_system system (λ c. answer_of_year c year answer blank) blank
    ≡ answer_unless (year_refusal system year) system year answer blank
unfolding year_refusal
system_then_year answer blank system year =
    by_inside 1 last_system system
    (λ e out. simp e)
    (λ e into. by_inside 1 3000 year (λ f out. simp (e, f)) (λ f into. simp (e, f)))

pub in_register_here : (system year : ℕ) (c : Constants) → constants_of system ≡ c → year_refusal system year ≡ 0
    → YearInRegister c (years_elapsed c year)
in_register_here system year c e z =
    subst (λ k. YearInRegister k (years_elapsed k year)) e (year_in_register system year (accepted system year z).year_inside)

-- What was answered to a request by system and year carries a number: it is the request's refusal, at most YEAR, and the
-- blank; or the request is in scope.
module _ {A : Type 0} (number : A → ℕ) (blank : ℕ → A) (carries : (refusal : ℕ) → number (blank refusal) ≡ refusal)
    (answer : Constants → ℕ → A)
    (system year : ℕ)
    {v : A}
    (is : v ≡ answer_unless (year_refusal system year) system year answer blank)
  where
    pub by_answer : {P : Type 0}
        → ((refusal : ℕ) → year_refusal system year ≡ refusal → Inside 1 YEAR refusal → number v ≡ refusal → v ≡ blank refusal → P)
        → (InScope system year → v ≡ answer (constants_of system) (years_elapsed (constants_of system) year) → P)
        → P
    by_answer {P} refused found =
        by_scope system year
        (λ no_system e. with_number SYSTEM e (omega arith))
        (λ s no_year_lem e. with_number YEAR e (omega arith))
        (λ s. found s (is ∙ sym (answered_year answer blank system year s)))
      where
        with_number : (refusal : ℕ) → year_refusal system year ≡ refusal → Inside 1 YEAR refusal → P
        with_number refusal e i =
            let blank_is = is ∙ refused_year answer blank system year refusal e i.at_least in
            refused refusal e i (ap number blank_is ∙ carries refusal) blank_is

-- What is asked by system and year and not refused: the constants are the system's, and the year lies within the
-- register.
module _ (system year : ℕ) {a : Asked} (e : a ≡ asked_of (year_refusal system year) system year) (z : a.refusal ≡ 0) where
  picked_here : constants_of system ≡ a.c
  picked_here = sym (ap (λ x. x.c) e)

  accepted_here : year_refusal system year ≡ 0
  accepted_here = sym (ap (λ x. x.refusal) e) ∙ z

  pub asked_of_system : (a.c ≡ constants_of system) × YearInRegister a.c (years_elapsed a.c year)
  asked_of_system = (sym picked_here, in_register_here system year a.c picked_here accepted_here)

  pub answered_of_system : {A : Type 0} (answer : Constants → ℕ → A) (blank : ℕ → A)
      → answer a.c (years_elapsed a.c year) ≡ answer_unless (year_refusal system year) system year answer blank
  answered_of_system answer blank = answered_here answer blank system year a.c picked_here accepted_here

-- What is asked in scope lies within the register.
pub asked_in_register : (a : Asked) (refusal system year : ℕ) → a ≡ asked_of refusal system year → InScope system year
    → YearInRegister a.c a.n
asked_in_register a refusal system year e s =
    subst (λ x. YearInRegister x.c x.n) (sym e) (year_in_register system year s.year_inside)
