-- How the request for a submerged day ends, in the paper's words.
use Prim.Native.Nat.{ℕ, ◌*◌, ◌≤◌, ◌<◌}
use mathlib.Core.Path.{◌≡◌, refl, subst, sym, ap, ◌∙◌}
use mathlib.Core.Bool.{true}
use native.Mathlib.Omega.{arith}
use borrow.Author.Tests.{eq-eqb, ne_eqb}
use Rattle.std.proofs.Common.{Option}
use Rattle.calendar.specs.declared.data.Constants.{Constants}
use Rattle.calendar.specs.Systems.{constants_of}
use Rattle.calendar.proofs.Rising.{by_order}
use Rattle.reckoning.specs.Answers.{MomentAnswer}
use Rattle.reckoning.specs.ComputedRefusals.{outside, qi_refusal}
use Rattle.reckoning.specs.RefusalNumbers.{SYSTEM, YEAR, STEP}
use Rattle.reckoning.specs.Requests.{qi_of}
use Rattle.reckoning.specs.Scope.{InScope}
use Rattle.reckoning.proofs.RefusalCases.{inside, outside_of, step_unseen, step_refused, accepted_step}
use Rattle.reckoning.proofs.RefusedRequests.{qi_blank}
use Rattle.reckoning.proofs.AnswersRight.{qi_holds}
use Rattle.submerged_extinguished.specs.Records.{DayAnswer}
use Rattle.submerged_extinguished.specs.Rules.{last_rule, HasRule, rule_of}
use Rattle.submerged_extinguished.specs.Distances.{SubmergedSays}
use Rattle.submerged_extinguished.specs.Answers.{exact_remainder, submerged_after, no_answer, answer_at}
use Rattle.submerged_extinguished.specs.Answers.{submerged_in, submerged_of}
use Rattle.submerged_extinguished.specs.Outcomes as O
use Rattle.submerged_extinguished.proofs.RuleLaws.{remainder_below, submerged_says}
use Rattle.submerged_extinguished.proofs.EachRule.{rule_holds}
use Rattle.submerged_extinguished.proofs.RuleScope.{by_rule}

abbrev answer_by : ℕ → MomentAnswer → DayAnswer
answer_by system qi = answer_at qi.day (submerged_after system qi.parts qi.units)

-- A blank answer is a refused one.
pub blank : {v : DayAnswer} {number : ℕ} → v ≡ no_answer number → O.Refused number v
blank is =
    record { carries = ap (λ w. w.refusal) is; no_day = ap (λ w. w.day.0) is; no_distance = ap (λ w. w.distance) is }

-- A system that has a rule: the request is refused as the qi was, or answered.
module _ (system : ℕ) (has : HasRule system) (qi : MomentAnswer) where
  refused_as : (number : ℕ) → qi.refusal ≡ number → (number ≡ 0 → ⊥) → submerged_in system qi ≡ no_answer number
  unfolding submerged_in
  refused_as number is some =
      simp (inside 1 last_rule system has, ne_eqb qi.refusal 0 (λ z. some (sym is ∙ z))) (ap no_answer is)

  answered_as : qi.refusal ≡ 0 → submerged_in system qi ≡ answer_by system qi
  unfolding submerged_in
  answered_as none = simp (inside 1 last_rule system has, eq-eqb qi.refusal 0 none)

module _ (system year i : ℕ) (has : HasRule system) where
  abbrev c : Constants
  c = constants_of system

  abbrev qi : MomentAnswer
  qi = qi_of system year i

  abbrev r : ℕ
  r = exact_remainder c qi.parts qi.units

  -- By the parts and small units that are answered for the qi, below their bounds.
  pub by_qi : InScope system year → i ≤ 24
      → (submerged_of system year i ≡ answer_by system qi) × (qi.parts < c.solar) × (qi.units < c.units)
  by_qi s h =
      let is = qi_holds system year s i h in
      (answered_as system has qi is.accepted, is.parts_below, is.units_below)

  says_here : InScope system year → i ≤ 24
      → (r < c.solar * c.units) × SubmergedSays c (rule_of system) r (submerged_after system qi.parts qi.units)
  says_here s h =
      let given = by_qi s h in
      let below = remainder_below c qi.parts qi.units given.1 given.2 in
      (below, submerged_says c (rule_of system) (rule_holds system has) r below)

  pub says_of_qi : InScope system year → i ≤ 24
      → SubmergedSays c (rule_of system) r (submerged_of system year i).distance
  says_of_qi s h =
      subst (SubmergedSays c (rule_of system) r) (sym (ap (λ v. v.distance) (by_qi s h).0)) (says_here s h).1

  qi_refused : (number : ℕ) → qi_refusal system year i ≡ number → 0 < number → submerged_of system year i ≡ no_answer number
  qi_refused number e some =
      let blank = qi_blank system year i (λ z. omega arith) in
      refused_as system has qi number (ap (λ m. m.refusal) blank ∙ e) (λ z. omega arith)

  qi_found : InScope system year → i ≤ 24 → O.SubmergedFound system year i (submerged_of system year i)
  qi_found s h =
      let is = qi_holds system year s i h in
      let here = says_here s h in
      subst (O.SubmergedFound system year i) (sym (by_qi s h).0)
      (record {
        has_rule = has;
        year_inside = s.year_inside;
        qi_inside = h;
        not_refused = refl;
        day = is.day;
        remainder = r;
        falls = record { moment = omega (arith, is.moment); below = here.0 };
        is_day = is.is_day;
        says = here.1;
      })

no_rule_blank : (system : ℕ) (qi : MomentAnswer) → outside 1 last_rule system ≡ true → submerged_in system qi ≡ no_answer SYSTEM
unfolding submerged_in
no_rule_blank system qi out = simp out

pub submerged_outcome : (system year i : ℕ) → O.SubmergedOutcome system year i (submerged_of system year i)
submerged_outcome system year i =
    by_rule system year
    (λ none e. O.SubmergedOutcome.system_refused none (blank (no_rule_blank system (qi_of system year i) e)))
    (λ has none refusal.
    let unseen = step_unseen 24 system year i (λ z. omega arith) in
    O.SubmergedOutcome.year_refused has none (blank (qi_refused system year i has YEAR (sym unseen ∙ refusal) (omega arith))))
    (λ has s.
    by_order 24 i
    (λ past.
    O.SubmergedOutcome.qi_refused has s.year_inside past
    (blank (qi_refused system year i has STEP (step_refused 24 system year i s past) (omega arith))))
    (λ h. O.SubmergedOutcome.found (qi_found system year i has s h)))

-- A qi that carries no refusal was not refused.
not_refused : (system year i : ℕ) → (qi_of system year i).refusal ≡ 0 → qi_refusal system year i ≡ 0
not_refused system year i none =
    by_order 0 (qi_refusal system year i)
    (λ some. absurd (omega (arith, ap (λ m. m.refusal) (qi_blank system year i (λ z. omega arith)))))
    (λ zero. omega arith)

-- What the code returns.
pub promised : {v : DayAnswer} (system year i : ℕ) → v ≡ submerged_of system year i
    → (v ≡ submerged_of system year i) × O.SubmergedOutcome system year i v
promised system year i is = (is, subst (O.SubmergedOutcome system year i) (sym is) (submerged_outcome system year i))

module _ (system year i : ℕ) where
  pub no_rule : (HasRule system → ⊥) → no_answer SYSTEM ≡ submerged_of system year i
  no_rule none = sym (no_rule_blank system (qi_of system year i) (outside_of 1 last_rule system none))

  module _ {qi : MomentAnswer} (asked : qi ≡ qi_of system year i) where
    pub returns_refusal : {v : DayAnswer} → HasRule system → (qi.refusal ≡ 0 → ⊥) → v ≡ no_answer qi.refusal → v ≡ submerged_of system year i
    returns_refusal has some is =
        is ∙ sym (refused_as system has qi qi.refusal refl some) ∙ ap (submerged_in system) asked

    pub returns_distance : {d : Option ℕ} → HasRule system → qi.refusal ≡ 0 → d ≡ submerged_after system qi.parts qi.units
        → answer_at qi.day d ≡ submerged_of system year i
    returns_distance has none is =
        ap (answer_at qi.day) is
        ∙ sym (answered_as system has qi none)
        ∙ ap (submerged_in system) asked

    -- A qi that was answered has parts and small units below their bounds.
    pub qi_below : qi.refusal ≡ 0
        → (qi.parts < (constants_of system).solar) × (qi.units < (constants_of system).units)
    qi_below none =
        let given = accepted_step 24 system year i (not_refused system year i (sym (ap (λ m. m.refusal) asked) ∙ none)) in
        let is = qi_holds system year given.0 i given.1 in
        let parts = ap (λ m. m.parts) asked in
        let units = ap (λ m. m.units) asked in
        (omega (arith, is.parts_below), omega (arith, is.units_below))
