-- How the requests for extinguished days end, in the paper's words.
use Prim.Native.Nat.{ℕ, ◌+◌, ◌-◌, ◌≤◌, ◌<◌}
use mathlib.Core.Path.{◌≡◌, refl, subst, sym, ap, ◌∙◌}
use mathlib.Core.Bool.{Bool, true, false}
use native.Mathlib.Omega.{arith}
use lib.ListN.{get_or}
use borrow.Author.Tests.{eq-eqb, ne_eqb}
use Rattle.calendar.specs.declared.data.Constants.{Constants}
use Rattle.calendar.specs.Systems.{constants_of, years_elapsed}
use Rattle.calendar.specs.ClosedForms.{first_month}
use Rattle.calendar.proofs.EachSystem.{consistent}
use Rattle.calendar.proofs.EveryCalendar.{count_least}
use Rattle.calendar.proofs.Reckoned.{reckoned}
use Rattle.calendar.proofs.Spans.{span, span_first, span_next}
use Rattle.reckoning.specs.ComputedRefusals.{outside, year_refusal}
use Rattle.reckoning.specs.RefusalNumbers.{SYSTEM, YEAR, DAY}
use Rattle.reckoning.specs.Scope.{YearInScope, InScope}
use Rattle.reckoning.specs.WordBounds.{MonthsInRegister}
use Rattle.reckoning.proofs.AnswerUnless.{refused_year, answered_year}
use Rattle.reckoning.proofs.FilledLaws.{filled_below, filled_past, replicate_reads}
use Rattle.reckoning.proofs.RefusalCases.{by_inside, inside, inside_of}
use Rattle.reckoning.proofs.RegisterLaws.{months_in_register}
use Rattle.reckoning.proofs.ScopeInRegister.{year_in_register}
use Rattle.submerged_extinguished.specs.Records.{DayAnswer, MoonsAnswer}
use Rattle.submerged_extinguished.specs.Rules.{last_rule, HasRule, rule_of}
use Rattle.submerged_extinguished.specs.Answers.{no_answer, extinguished_at, unused, no_moons, extinguished_from, extinguished_days_in}
use Rattle.submerged_extinguished.specs.Answers.{no_days, extinguished_days_of, answer_on, extinguished_of}
use Rattle.submerged_extinguished.specs.Outcomes as O
use Rattle.submerged_extinguished.proofs.RuleLaws.{extinguished_says}
use Rattle.submerged_extinguished.proofs.EachRule.{rule_holds}
use Rattle.submerged_extinguished.proofs.RuleScope.{by_rule}
use Rattle.submerged_extinguished.proofs.SubmergedEnds.{blank}

-- The answer at a place, by its year's extinguished days.
module _ (system year place : ℕ) where
  abbrev days : MoonsAnswer
  days = extinguished_days_of system year

  pub of_refused : (number : ℕ) → days.refusal ≡ number → (number ≡ 0 → ⊥) → extinguished_of system year place ≡ no_answer number
  unfolding extinguished_of
  of_refused number is some = simp (ne_eqb days.refusal 0 (λ z. some (sym is ∙ z))) (ap no_answer is)

  pub of_lacking : days.refusal ≡ 0 → outside 1 days.count place ≡ true → extinguished_of system year place ≡ no_answer DAY
  unfolding extinguished_of
  of_lacking none e = simp (eq-eqb days.refusal 0 none, e)

  pub of_place : days.refusal ≡ 0 → outside 1 days.count place ≡ false
      → extinguished_of system year place ≡ answer_on (get_or days.moons (place - 1) unused)
  unfolding extinguished_of
  of_place none e = simp (eq-eqb days.refusal 0 none, e)

-- The extinguished days of a year: refused,
pub no_rule : (system year : ℕ) → outside 1 last_rule system ≡ true → extinguished_days_of system year ≡ no_days SYSTEM
unfolding extinguished_days_of
no_rule system year out = simp out

module _ (system year : ℕ) (has : HasRule system) where
  abbrev c : Constants
  c = constants_of system

  abbrev n : ℕ
  n = years_elapsed c year

  pub days_refused : (number : ℕ) → year_refusal system year ≡ number → 0 < number → extinguished_days_of system year ≡ no_days number
  unfolding extinguished_days_of
  days_refused number e some =
      simp (inside 1 last_rule system has) (refused_year (extinguished_days_in (rule_of system)) no_days system year number e some)

  -- and answered.
  module _ (s : InScope system year) where
    pub days_answered : extinguished_days_in (rule_of system) c n ≡ extinguished_days_of system year
    unfolding extinguished_days_of
    days_answered =
        simp (inside 1 last_rule system has) (answered_year (extinguished_days_in (rule_of system)) no_days system year s)

    in_register : MonthsInRegister c (first_month c n) (first_month c (n + 1) - first_month c n)
    in_register = months_in_register c n (year_in_register system year s.year_inside)

    accepted : (extinguished_days_of system year).refusal ≡ 0
    unfolding extinguished_from
    accepted = ap (λ v. v.refusal) (sym days_answered)

    pub counted : (extinguished_days_of system year).count ≡ first_month c (n + 1) - first_month c n
    unfolding extinguished_from
    counted = ap (λ v. v.count) (sym days_answered)

    -- Each answer is that of its month.
    pub of_month : (i : ℕ) → i < (extinguished_days_of system year).count
        → get_or (extinguished_days_of system year).moons i unused ≡ extinguished_at c (rule_of system) (first_month c n + i)
    unfolding extinguished_from
    of_month i h =
        ap (λ v. get_or v.moons i unused) (sym days_answered)
        ∙ filled_below (λ j. extinguished_at c (rule_of system) (first_month c n + j)) no_moons unused _ i (omega (arith, counted))
        (omega (arith, in_register.count_most))

    module _ (place : ℕ) where
      -- A place that some month has is one of those listed.
      within : (k : ℕ) → O.AtPlace c n place k → (1 ≤ place) × (place ≤ (extinguished_days_of system year).count)
      within k at =
          let ok = consistent system in
          let first = span_first c ok at.in_year.span in
          let next = span_next c ok at.in_year.span in
          (omega (arith, at.place_is, at.in_year.from), omega (arith, at.place_is, at.in_year.before, counted))

      found : 1 ≤ place → place ≤ (extinguished_days_of system year).count
          → O.ExtinguishedFound system year place (answer_on (extinguished_at c (rule_of system) (first_month c n + (place - 1))))
      found from to =
          let k = first_month c n + (place - 1) in
          let least = count_least (reckoned c (consistent system)) n in
          let there = in_register.head (place - 1) (omega (arith, counted)) in
          record {
            has_rule = has;
            year_inside = s.year_inside;
            k = k;
            at_place = record {
              in_year = record { span = span c (consistent system) n; from = omega arith; before = omega (arith, counted) };
              place_is = omega arith;
            };
            not_refused = refl;
            is_day = omega (arith, there);
            says = extinguished_says c (rule_of system) (rule_holds system has) _;
          }

      place_outcome : O.ExtinguishedOutcome system year place (extinguished_of system year place)
      place_outcome =
          by_inside 1 (extinguished_days_of system year).count place
          (λ e out.
          O.ExtinguishedOutcome.place_refused has s.year_inside
          (λ k at. let w = within k at in out (record { at_least = w.0; at_most = w.1 }))
          (blank (of_lacking system year place accepted e)))
          (λ e into.
          let is = of_place system year place accepted e ∙ ap answer_on (of_month (place - 1) (omega (arith, into))) in
          O.ExtinguishedOutcome.found
          (subst (O.ExtinguishedFound system year place) (sym is) (found into.at_least into.at_most)))

-- A year's extinguished days are refused, or those of a year in scope.
by_year : {P : Type 0} (system year : ℕ)
    → ((HasRule system → ⊥) → extinguished_days_of system year ≡ no_days SYSTEM → P)
    → (HasRule system → (YearInScope year → ⊥) → extinguished_days_of system year ≡ no_days YEAR → P)
    → (HasRule system → InScope system year → P)
    → P
by_year system year no-rule-listed no-year-listed scope =
    by_rule system year
    (λ none e. no-rule-listed none (no_rule system year e))
    (λ has none refusal. no-year-listed has none (days_refused system year has YEAR refusal (omega arith)))
    scope

pub extinguished_outcome : (system year place : ℕ) → O.ExtinguishedOutcome system year place (extinguished_of system year place)
extinguished_outcome system year place =
    by_year system year
    (λ none is.
    O.ExtinguishedOutcome.system_refused none
    (blank (of_refused system year place SYSTEM (ap (λ v. v.refusal) is) (λ z. omega arith))))
    (λ has none is.
    O.ExtinguishedOutcome.year_refused has none
    (blank (of_refused system year place YEAR (ap (λ v. v.refusal) is) (λ z. omega arith))))
    (λ has s. place_outcome system year has s place)

-- There are thirteen at most; one that is refused has none.
pub thirteen_most : (system year : ℕ) → (extinguished_days_of system year).count ≤ 13
thirteen_most system year =
    by_year system year
    (λ none is. omega (arith, ap (λ v. v.count) is))
    (λ has none is. omega (arith, ap (λ v. v.count) is))
    (λ has s. omega (arith, counted system year has s, (in_register system year has s).count_most))

-- After the last are unused places, and in a refused answer nothing else.
pub past_the_last : (system year i : ℕ) → (extinguished_days_of system year).count ≤ i
    → get_or (extinguished_days_of system year).moons i unused ≡ unused
unfolding extinguished_from
past_the_last system year i h =
    by_year system year
    (λ none is. of_blank SYSTEM is)
    (λ has none is. of_blank YEAR is)
    (λ has s.
    ap (λ v. get_or v.moons i unused) (sym (days_answered system year has s))
    ∙ filled_past _ no_moons unused _ i (omega (arith, counted system year has s))
    ∙ replicate_reads unused 13 i)
  where
    of_blank : (number : ℕ) → extinguished_days_of system year ≡ no_days number
        → get_or (extinguished_days_of system year).moons i unused ≡ unused
    of_blank number is = ap (λ v. get_or v.moons i unused) is ∙ replicate_reads unused 13 i

-- Where any is listed, the year was not refused.
listed_accepted : (system year i : ℕ) → i < (extinguished_days_of system year).count → (extinguished_days_of system year).refusal ≡ 0
listed_accepted system year i h =
    by_year system year
    (λ none is. absurd (omega (arith, ap (λ v. v.count) is)))
    (λ has none is. absurd (omega (arith, ap (λ v. v.count) is)))
    (λ has s. accepted system year has s)

-- Each of a year's is the answer by itself.
pub one_by_one : (system year i : ℕ) → i < (extinguished_days_of system year).count
    → answer_on (get_or (extinguished_days_of system year).moons i unused) ≡ extinguished_of system year (i + 1)
one_by_one system year i h =
    let count = (extinguished_days_of system year).count in
    let here : i + 1 - 1 ≡ i = omega arith in
    let within : outside 1 count (i + 1) ≡ false = inside 1 count (i + 1) (record { at_least = omega arith; at_most = omega arith }) in
    ap (λ k. answer_on (get_or (extinguished_days_of system year).moons k unused)) (sym here)
    ∙ sym (of_place system year (i + 1) (listed_accepted system year i h) within)

-- What the code returns, by the days that it asked for.
pub promised : {v : DayAnswer} (system year place : ℕ) → v ≡ extinguished_of system year place
    → (v ≡ extinguished_of system year place) × O.ExtinguishedOutcome system year place v
promised system year place is = (is, subst (O.ExtinguishedOutcome system year place) (sym is) (extinguished_outcome system year place))

module _ (system year place : ℕ) {got : MoonsAnswer} (asked : got ≡ extinguished_days_of system year) where
  pub returns_refusal : {v : DayAnswer} → (got.refusal ≡ 0 → ⊥) → v ≡ no_answer got.refusal → v ≡ extinguished_of system year place
  returns_refusal some is = is ∙ sym (of_refused system year place got.refusal (sym (ap (λ w. w.refusal) asked)) some)

  module _ (none : got.refusal ≡ 0) {b : Bool} (test : b ≡ outside 1 got.count place) where
    accepted_days : (extinguished_days_of system year).refusal ≡ 0
    accepted_days = sym (ap (λ w. w.refusal) asked) ∙ none

    tested : outside 1 (extinguished_days_of system year).count place ≡ b
    tested = sym (test ∙ ap (λ w. outside 1 w.count place) asked)

    pub returns_lacking : {v : DayAnswer} → b ≡ true → v ≡ no_answer DAY → v ≡ extinguished_of system year place
    returns_lacking out is = is ∙ sym (of_lacking system year place accepted_days (tested ∙ out))

    pub returns_answer : {v : DayAnswer} → b ≡ false → v ≡ answer_on (get_or got.moons (place - 1) unused) → v ≡ extinguished_of system year place
    returns_answer into is =
        is
        ∙ ap (λ w. answer_on (get_or w.moons (place - 1) unused)) asked
        ∙ sym (of_place system year place accepted_days (tested ∙ into))

-- A place that is tested can be read.
module _ (system year place : ℕ) {got : MoonsAnswer} (asked : got ≡ extinguished_days_of system year)
    {b : Bool}
    (test : b ≡ outside 1 got.count place)
    (into : b ≡ false)
  where
    pub index_there : place - 1 < 13
    index_there =
        omega (
          arith,
          inside_of 1 got.count place (sym test ∙ into),
          ap (λ w. w.count) asked,
          thirteen_most system year,
        )
