-- A comparison is refused by its table, and otherwise both of its years are in scope.
use Prim.Native.Nat.{ℕ}
use mathlib.Core.Path.{◌≡◌, refl, sym, ap, ap₂, ◌∙◌}
use mathlib.Core.Logic.{inl, inr, ⊎_elim}
use mathlib.Core.Bool.{Bool, true, false, cond}
use native.Mathlib.Omega.{arith}
use borrow.Author.Tests.{eq-eqb, ne_eqb, eqb-true}
use lib.Dec.{eqb}
use Rattle.calendar.proofs.Cases.{by_bool}
use Rattle.reckoning.specs.Answers.{YearAnswer}
use Rattle.reckoning.specs.RefusalNumbers.{SYSTEM, YEAR}
use Rattle.reckoning.specs.ComputedRefusals.{Rule, ◌if◌, no_such_system, wrong_system, wrong_year, year_refusal}
use Rattle.reckoning.specs.Scope.{InScope}
use Rattle.reckoning.specs.WordedRefusals.{FirstOf}
use Rattle.reckoning.specs.Requests.{year_of}
use Rattle.reckoning.proofs.RefusalCases.{accepted, in_scope, by_scope}
use Rattle.reckoning.proofs.MonthsRight.{year_carries}
use Rattle.comparison.specs.Answers.{ComparisonAnswer}
use Rattle.comparison.specs.Comparisons.{comparison_refusal, listing, no_comparison, comparison_of}
use Rattle.comparison.specs.WhereSystemsDiffer.{comparison_rows}

-- Whether a rule applies.
abbrev pub applies : Rule → Bool
applies (number if b) = b

-- The first system is judged first, and then the second by itself.
by_first_system : (wrong bad_year : Bool) (rest : ℕ) → cond wrong SYSTEM (cond bad_year YEAR 0) ≡ SYSTEM → cond wrong SYSTEM rest ≡ SYSTEM
by_first_system true bad_year rest e = refl
by_first_system false true rest e = absurd (omega arith)
by_first_system false false rest e = absurd (omega arith)

past_first_system : (wrong bad_year : Bool) (rest : ℕ) → (cond wrong SYSTEM (cond bad_year YEAR 0) ≡ SYSTEM → ⊥) → cond wrong SYSTEM rest ≡ rest
past_first_system true bad_year rest h = absurd (h refl)
past_first_system false bad_year rest h = refl

module _ (first second year : ℕ) where
  pub first_wrong : year_refusal first year ≡ SYSTEM → comparison_refusal first second year ≡ SYSTEM
  unfolding comparison_refusal year_refusal
  first_wrong e =
      by_first_system (applies (wrong_system first)) (applies (wrong_year year)) (year_refusal second year) e

  pub first_right : (year_refusal first year ≡ SYSTEM → ⊥) → comparison_refusal first second year ≡ year_refusal second year
  unfolding comparison_refusal year_refusal
  first_right h =
      past_first_system (applies (wrong_system first)) (applies (wrong_year year)) (year_refusal second year) h

  both_in_scope : InScope first year → comparison_refusal first second year ≡ year_refusal second year
  both_in_scope s = first_right (λ e. omega (arith, in_scope first year s))

  pub refusal_first : FirstOf (comparison_rows first second year) (comparison_refusal first second year)
  refusal_first =
      by_scope first year
      (λ no_system e. inl (first_wrong e, inl no_system))
      (λ system_inside no_year_lem e.
      let judged = first_right (λ f. omega arith) in
      by_scope second year
      (λ no_system f. inl (judged ∙ f, inr no_system))
      (λ other_inside out f. inr (⊎_elim (λ w. w system_inside) (λ w. w other_inside), inl (judged ∙ f, out)))
      (λ s. absurd (no_year_lem s.year_inside)))
      (λ s.
      let judged = both_in_scope s in
      by_scope second year
      (λ no_system f. inl (judged ∙ f, inr no_system))
      (λ other_inside out f. absurd (out s.year_inside))
      (λ t.
      inr (
        ⊎_elim (λ w. w s.system_inside) (λ w. w t.system_inside),
        inr (λ out. out s.year_inside, judged ∙ in_scope second year t),
      )))

  pub compared : InScope first year → InScope second year → comparison_refusal first second year ≡ 0
  compared s t = both_in_scope s ∙ in_scope second year t

  -- The answer carries the refusal of its request.
  pub carries : (comparison_of first second year).refusal ≡ comparison_refusal first second year
  unfolding comparison_of listing
  carries =
      let refusal = comparison_refusal first second year in
      by_bool (eqb refusal 0) (λ e. simp e (sym (eqb-true refusal 0 e))) (λ e. simp e)

  -- Refused, it is blank.
  pub blank : (comparison_refusal first second year ≡ 0 → ⊥)
      → comparison_of first second year ≡ no_comparison (comparison_refusal first second year)
  unfolding comparison_of
  blank some = simp (ne_eqb (comparison_refusal first second year) 0 some)

  -- What is not refused is of two systems and a year in scope.
  pub first_in_scope : comparison_refusal first second year ≡ 0 → InScope first year
  first_in_scope none =
      by_scope first year
      (λ no_system e. absurd (omega (arith, first_wrong e)))
      (λ system_inside no_year_lem e.
      absurd (no_year_lem (accepted second year (sym (first_right (λ f. omega arith)) ∙ none)).year_inside))
      (λ s. s)

  pub second_in_scope : comparison_refusal first second year ≡ 0 → InScope second year
  second_in_scope none = accepted second year (sym (both_in_scope (first_in_scope none)) ∙ none)

-- The answer, with each system judged first, and then the years as they are asked.
module _ (first second year : ℕ) where
  refused_as : {v : ComparisonAnswer} {number : ℕ} → comparison_refusal first second year ≡ number → (number ≡ 0 → ⊥) → v ≡ no_comparison number
      → v ≡ comparison_of first second year
  unfolding comparison_of
  refused_as {number = number} e some is =
      is ∙ ap no_comparison (sym e) ∙ simp (ne_eqb (comparison_refusal first second year) 0 (λ z. some (sym e ∙ z)))

  pub wrong_first : {v : ComparisonAnswer} → no_such_system first ≡ true → v ≡ no_comparison SYSTEM → v ≡ comparison_of first second year
  unfolding comparison_refusal
  wrong_first wrong is = refused_as (simp wrong) (λ z. omega arith) is

  module _ (one : no_such_system first ≡ false) where
    pub wrong_second : {v : ComparisonAnswer} → no_such_system second ≡ true → v ≡ no_comparison SYSTEM → v ≡ comparison_of first second year
    unfolding comparison_refusal
    wrong_second wrong is = refused_as (simp (one, wrong)) (λ z. omega arith) is

    module _ (other : no_such_system second ≡ false) where
      by_year_of_first : comparison_refusal first second year ≡ year_refusal first year
      unfolding comparison_refusal year_refusal
      by_year_of_first = simp (one, other)

      by_year_of_second : comparison_refusal first second year ≡ year_refusal second year
      unfolding comparison_refusal year_refusal
      by_year_of_second = simp (one, other)

      module _ {a : YearAnswer} (a_is : a ≡ year_of first year) where
        a_refusal : comparison_refusal first second year ≡ a.refusal
        a_refusal = by_year_of_first ∙ sym (ap (λ m. m.refusal) a_is ∙ year_carries first year)

        pub wrong_year_of_first : {v : ComparisonAnswer} → (a.refusal ≡ 0 → ⊥) → v ≡ no_comparison a.refusal → v ≡ comparison_of first second year
        wrong_year_of_first some is = refused_as a_refusal some is

        module _ {b : YearAnswer} (b_is : b ≡ year_of second year) where
          b_refusal : comparison_refusal first second year ≡ b.refusal
          b_refusal = by_year_of_second ∙ sym (ap (λ m. m.refusal) b_is ∙ year_carries second year)

          pub wrong_year_of_second : {v : ComparisonAnswer} → (b.refusal ≡ 0 → ⊥) → v ≡ no_comparison b.refusal → v ≡ comparison_of first second year
          wrong_year_of_second some is = refused_as b_refusal some is

          pub both_right : {v : ComparisonAnswer} → b.refusal ≡ 0 → v ≡ listing a b → v ≡ comparison_of first second year
          unfolding comparison_of
          both_right none is =
              is ∙ ap₂ listing a_is b_is ∙ simp (eq-eqb (comparison_refusal first second year) 0 (b_refusal ∙ none))
