-- Submerged and extinguished days: paper 02, Q-10, in the order of its sentences. What is said of an answer is said for
-- every input; what is said of remainders, for every one that there can be.
use Prim.Native.Nat.{ℕ, ◌+◌, ◌*◌, ◌≤◌, ◌<◌}
use mathlib.Core.Path.{◌≡◌, subst}
use mathlib.Core.Logic.{◌↔◌}
use native.Mathlib.Omega.{arith}
use lib.ListN.{get_or}
use Rattle.std.proofs.Common.{Option, Some, None}
use Rattle.calendar.specs.declared.data.Constants.{Constants}
use Rattle.calendar.specs.Systems.{guantian, jiyuan, constants_of, years_elapsed}
use Rattle.calendar.specs.Month.{new_moon_remainder, month_length}
use Rattle.calendar.specs.Year.{Span, month_count}
use Rattle.calendar.proofs.EachSystem.{consistent}
use Rattle.calendar.proofs.Spans.{span_first, span_next}
use Rattle.reckoning.specs.Requests.{qi_of}
use Rattle.reckoning.specs.Scope.{YearInScope, InScope}
use Rattle.submerged_extinguished.specs.Records.{DayAnswer}
use Rattle.submerged_extinguished.specs.declared.rules.Rule.{Rule}
use Rattle.submerged_extinguished.specs.Rules.{guantian_rule, jiyuan_rule, HasRule, rule_of}
use Rattle.submerged_extinguished.specs.Distances.{SubmergedSays, ExtinguishedSays, GuantianSays, JiyuanSays}
use Rattle.submerged_extinguished.specs.Answers.{exact_remainder, submerged_by, extinguished_by, submerged_of, unused, extinguished_days_of, answer_on, extinguished_of}
use Rattle.submerged_extinguished.specs.Outcomes.{Refused, SubmergedOutcome, ExtinguishedOutcome}
use Rattle.submerged_extinguished.proofs.RuleLaws as Rules
use Rattle.submerged_extinguished.proofs.EachRule as Each
use Rattle.submerged_extinguished.proofs.MoonLaws as Moons
use Rattle.submerged_extinguished.proofs.SubmergedEnds.{by_qi, says_of_qi, submerged_outcome}
use Rattle.submerged_extinguished.proofs.ExtinguishedEnds.{extinguished_outcome, counted, one_by_one, past_the_last}

-- Each is answered as a distance after its qi's or new moon's day, or none; system 3 is refused 4 (SYSTEM), then a year 5
-- (YEAR), then a qi above 24 is refused 9 (STEP) and a place that the year lacks 7 (DAY).
pub submerged_answered : (system year i : ℕ) → SubmergedOutcome system year i (submerged_of system year i)
submerged_answered = submerged_outcome

pub extinguished_answered : (system year place : ℕ) → ExtinguishedOutcome system year place (extinguished_of system year place)
extinguished_answered = extinguished_outcome

-- A qi has a submerged day when its remainder is 9,402 whole parts or more, or 5,697 and a quarter or more; its distance
-- by each system's own words.
pub guantian_words : (parts units : ℕ) → parts < 12_030 → units < 36 → (d : Option ℕ)
    → SubmergedSays guantian guantian_rule (exact_remainder guantian parts units) d ↔ GuantianSays parts units d
guantian_words = Each.guantian_words

pub jiyuan_words : (parts units : ℕ) → parts < 7290 → units < 4 → (d : Option ℕ)
    → SubmergedSays jiyuan jiyuan_rule (exact_remainder jiyuan parts units) d ↔ JiyuanSays parts units d
jiyuan_words = Each.jiyuan_words

-- So each answer in scope says them of its qi's parts and small units.
pub guantian_qi : (year i : ℕ) → YearInScope year → i ≤ 24
    → GuantianSays (qi_of 1 year i).parts (qi_of 1 year i).units (submerged_of 1 year i).distance
guantian_qi year i y h =
    let qi = qi_of 1 year i in
    let scope : InScope 1 year = record { system_inside = omega arith; year_inside = y } in
    let given = by_qi 1 year i (omega arith) scope h in
    (guantian_words qi.parts qi.units given.1 given.2 (submerged_of 1 year i).distance).0
    (says_of_qi 1 year i (omega arith) scope h)

pub jiyuan_qi : (year i : ℕ) → YearInScope year → i ≤ 24
    → JiyuanSays (qi_of 2 year i).parts (qi_of 2 year i).units (submerged_of 2 year i).distance
jiyuan_qi year i y h =
    let qi = qi_of 2 year i in
    let scope : InScope 2 year = record { system_inside = omega arith; year_inside = y } in
    let given = by_qi 2 year i (omega arith) scope h in
    (jiyuan_words qi.parts qi.units given.1 given.2 (submerged_of 2 year i).distance).0
    (says_of_qi 2 year i (omega arith) scope h)

module _ (system : ℕ) (has : HasRule system) where
  abbrev c : Constants
  c = constants_of system

  abbrev rule : Rule
  rule = rule_of system

  module _ (r : ℕ) (below : r < c.solar * c.units) where
    -- Of a remainder one distance is said, or none.
    pub submerged_alone : (d : Option ℕ) → SubmergedSays c rule r d → d ≡ submerged_by c rule r
    submerged_alone = Rules.submerged_alone c rule (Each.rule_holds system has) r below

    -- Submerged distances are 1 to 16,
    pub one_to_sixteen : (days : ℕ) → SubmergedSays c rule r (Some days) → (1 ≤ days) × (days ≤ 16)
    one_to_sixteen = Rules.submerged_range c rule (Each.rule_holds system has) r below

    -- and otherwise, below the limit, the answer is none.
    pub none_below_limit : (submerged_by c rule r ≡ None) ↔ (r < rule.limit)
    none_below_limit = Rules.none_below c rule (Each.rule_holds system has) r below

  module _ (r : ℕ) where
    pub extinguished_alone : (d : Option ℕ) → ExtinguishedSays rule r d → d ≡ extinguished_by rule r
    extinguished_alone = Rules.extinguished_alone c rule (Each.rule_holds system has) r

    -- Extinguished distances are 0 to 29,
    pub zero_to_twenty_nine : (days : ℕ) → ExtinguishedSays rule r (Some days) → days ≤ 29
    zero_to_twenty_nine = Rules.extinguished_range c rule (Each.rule_holds system has) r

    -- and otherwise the answer is none.
    pub none_from_shortfall : (extinguished_by rule r ≡ None) ↔ (rule.shortfall ≤ r)
    none_from_shortfall = Rules.none_from c rule (Each.rule_holds system has) r

  -- So a new moon has an extinguished day exactly when its month has 29 days.
  pub in_short_months : (k : ℕ) → (new_moon_remainder c k < rule.shortfall) ↔ (month_length c k ≡ 29)
  in_short_months = Moons.in_short_months c (consistent system) rule (Each.rule_holds system has)

-- The same ranges, of the answers, whatever is asked.
refused_none : {number : ℕ} {v : DayAnswer} {days : ℕ} → Refused number v → v.distance ≡ Some days → ⊥
refused_none refused e = cc (refused.no_distance, e)

pub submerged_answers : (system year i days : ℕ) → (submerged_of system year i).distance ≡ Some days → (1 ≤ days) × (days ≤ 16)
submerged_answers system year i days e = by_outcome (submerged_outcome system year i)
  where
    by_outcome : SubmergedOutcome system year i (submerged_of system year i) → (1 ≤ days) × (days ≤ 16)
    by_outcome (SubmergedOutcome.system_refused none refused) = absurd (refused_none refused e)
    by_outcome (SubmergedOutcome.year_refused has none refused) = absurd (refused_none refused e)
    by_outcome (SubmergedOutcome.qi_refused has y past refused) = absurd (refused_none refused e)
    by_outcome (SubmergedOutcome.found f) =
        one_to_sixteen system f.has_rule f.remainder f.falls.below days
        (subst (SubmergedSays (constants_of system) (rule_of system) f.remainder) e f.says)

pub extinguished_answers : (system year place days : ℕ) → (extinguished_of system year place).distance ≡ Some days → days ≤ 29
extinguished_answers system year place days e = by_outcome (extinguished_outcome system year place)
  where
    by_outcome : ExtinguishedOutcome system year place (extinguished_of system year place) → days ≤ 29
    by_outcome (ExtinguishedOutcome.system_refused none refused) = absurd (refused_none refused e)
    by_outcome (ExtinguishedOutcome.year_refused has none refused) = absurd (refused_none refused e)
    by_outcome (ExtinguishedOutcome.place_refused has y lacks refused) = absurd (refused_none refused e)
    by_outcome (ExtinguishedOutcome.found f) =
        zero_to_twenty_nine system f.has_rule (new_moon_remainder (constants_of system) f.k) days
        (subst (ExtinguishedSays (rule_of system) (new_moon_remainder (constants_of system) f.k)) e f.says)

-- A year's extinguished days are told at once too: as many as the year has months,
pub listed_months : (system year : ℕ) → HasRule system → InScope system year
    → (y : Span (constants_of system) (years_elapsed (constants_of system) year))
    → (extinguished_days_of system year).count ≡ month_count y
listed_months system year has s y =
    let c = constants_of system in
    let first = span_first c (consistent system) y in
    let next = span_next c (consistent system) y in
    omega (arith, counted system year has s)

-- each as it is by itself,
pub listed_alike : (system year i : ℕ) → i < (extinguished_days_of system year).count
    → answer_on (get_or (extinguished_days_of system year).moons i unused) ≡ extinguished_of system year (i + 1)
listed_alike = one_by_one

-- and after them, or where the year is refused, day 0 and no distance.
pub unlisted : (system year i : ℕ) → (extinguished_days_of system year).count ≤ i
    → get_or (extinguished_days_of system year).moons i unused ≡ record { day = record { 0 = 0 }; distance = None }
unlisted = past_the_last
