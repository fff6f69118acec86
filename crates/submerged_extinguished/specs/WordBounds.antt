-- Bounds of machine words, under which the code's numbers fit. The numbers of each system that has a rule keep them
-- (`src/rules.rt: Numbers`), and so do the heads and the new moons of years in scope.
use Rattle.std.specs.Prelude.{ℕ, ◌*◌, ◌^◌, ◌≤◌, ◌<◌, ◌≡◌}
use Rattle.calendar.specs.declared.data.Constants.{Constants}
use Rattle.calendar.specs.Systems.{register_day, count_day}
use Rattle.calendar.specs.Month.{month_head}
use Rattle.calendar.specs.ClosedForms.{month_of_day}
use Rattle.reckoning.specs.WordBounds.{ConstantsFit, InRegister}
use Rattle.submerged_extinguished.specs.declared.moons.Moon.{Moon}
use Rattle.submerged_extinguished.specs.declared.rules.Rule.{Rule}
use Rattle.submerged_extinguished.specs.RuleHolds.{RuleHolds}

pub record RuleFits (c : Constants) (rule : Rule) : Type 0 where
  pub holds : RuleHolds c rule
  pub day_small : c.solar * c.units < 2 ^ 62
  pub minuend_small : rule.minuend * c.units < 2 ^ 62
  pub lunar_small : c.lunar < 2 ^ 32
  pub shortfall_small : rule.shortfall ≤ c.lunar

-- Register day r is the head of a month.
pub record HeadFits (c : Constants) (r : ℕ) : Type 0 where
  pub constants_fit : ConstantsFit c
  pub in_register : InRegister c (count_day c r)
  pub back : register_day c (count_day c r) ≡ r
  pub begins_month : month_head c (month_of_day c (count_day c r)) ≡ count_day c r

-- A new moon with the next one within the register.
pub record MoonFits (c : Constants) (m : Moon) : Type 0 where
  pub day_small : m.day < 2 ^ 31
  pub remainder_below : m.remainder < c.lunar
