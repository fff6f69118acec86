-- The list, checked for each system that has a rule, and the rule in each system's own words.
use Prim.Native.Nat.{ℕ, ◌+◌, ◌*◌, ◌-◌, ◌<◌}
use mathlib.Core.Path.{◌≡◌, refl, subst}
use mathlib.Core.Logic.{◌↔◌}
use native.Mathlib.Omega.{arith}
use Rattle.std.proofs.Common.{Option, Some, None}
use Rattle.calendar.specs.declared.data.Constants.{Constants}
use Rattle.calendar.specs.Systems.{guantian, jiyuan, constants_of}
use Rattle.calendar.specs.Steps.{step}
use Rattle.calendar.proofs.Rising.{by_order}
use Rattle.submerged_extinguished.specs.declared.rules.Rule.{Rule}
use Rattle.submerged_extinguished.specs.Rules.{guantian_rule, jiyuan_rule, rule_of, HasRule}
use Rattle.submerged_extinguished.specs.Distances.{SubmergedSays, GuantianSays, JiyuanSays}
use Rattle.submerged_extinguished.specs.RuleHolds.{RuleHolds}
use Rattle.submerged_extinguished.specs.Answers.{exact_remainder}

-- What holds of the rule of each system holds of the one that a system's number picks.
each_rule : (P : Constants → Rule → Type 0) → P guantian guantian_rule → P jiyuan jiyuan_rule
    → (system : ℕ) → HasRule system → P (constants_of system) (rule_of system)
each_rule P first second system has =
    by_order system 2
    (λ l. let is : 1 ≡ system = omega (arith, has) in subst (λ k. P (constants_of k) (rule_of k)) is first)
    (λ l. let is : 2 ≡ system = omega (arith, has) in subst (λ k. P (constants_of k) (rule_of k)) is second)

guantian_holds : RuleHolds guantian guantian_rule
guantian_holds = omega arith

jiyuan_holds : RuleHolds jiyuan jiyuan_rule
jiyuan_holds = omega arith

pub rule_holds : (system : ℕ) → HasRule system → RuleHolds (constants_of system) (rule_of system)
rule_holds = each_rule RuleHolds guantian_holds jiyuan_holds

-- Each system's own words, for every remainder that there can be.
pub guantian_words : (parts units : ℕ) → parts < 12_030 → units < 36 → (d : Option ℕ)
    → SubmergedSays guantian guantian_rule (exact_remainder guantian parts units) d ↔ GuantianSays parts units d
guantian_words parts units p q (Some days) = (
  λ says. let whole = says.1.is in let cut = says.1.distance in (omega arith, (omega arith, omega arith)),
  λ says.
      let left = 4_393_880 - 360 * parts - 10 * units in
      (omega arith, record { difference = 36 * left; is = omega arith; distance = (omega arith, omega arith) }),
)
guantian_words parts units p q None = (λ says. omega arith, λ says. omega arith)

pub jiyuan_words : (parts units : ℕ) → parts < 7290 → units < 4 → (d : Option ℕ)
    → SubmergedSays jiyuan jiyuan_rule (exact_remainder jiyuan parts units) d ↔ JiyuanSays parts units d
jiyuan_words parts units p q (Some days) = (
  λ says. let whole = says.1.is in let cut = says.1.distance in (omega arith, (omega arith, omega arith)),
  λ says.
      let left = 4 * 443_771 - 60 * (4 * parts + units) in
      (omega arith, record { difference = left; is = omega arith; distance = (omega arith, omega arith) }),
)
jiyuan_words parts units p q None = (λ says. omega arith, λ says. omega arith)

-- The minuend is to the multiplier as the year to 360 days.
pub by_the_year : (system : ℕ) → HasRule system
    → (rule_of system).multiplier * (constants_of system).year ≡ 360 * (rule_of system).minuend
by_the_year = each_rule (λ c rule. rule.multiplier * c.year ≡ 360 * rule.minuend) refl refl

-- The limit and what a qi's step has beyond fifteen days make a day: exactly in Jiyuan, and in Guantian with 12 small
-- units more, since its limit is in whole parts.
pub guantian_limit : guantian_rule.limit + (step guantian 24 guantian.units - 15 * (12_030 * 36)) ≡ 12_030 * 36 + 12
guantian_limit = refl

pub jiyuan_limit : jiyuan_rule.limit + (step jiyuan 24 jiyuan.units - 15 * (7290 * 4)) ≡ 7290 * 4
jiyuan_limit = refl
