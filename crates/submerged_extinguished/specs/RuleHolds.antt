-- What the laws ask of a rule's numbers beside its system's constants: a short list, checked for each system by computing.
use Rattle.std.specs.Prelude.{◌+◌, ◌*◌, ◌<◌, ◌≡◌}
use Rattle.calendar.specs.declared.data.Constants.{Constants}
use Rattle.submerged_extinguished.specs.declared.rules.Rule.{Rule}

pub record RuleHolds (c : Constants) (rule : Rule) : Type 0 where
  pub units_some : 0 < c.units
  pub divisor_some : 0 < rule.divisor
  -- the minuend is 360 days and the divisor, so multiplied: a whole day's remainder would leave a distance of one day
  pub beyond_360 : rule.minuend ≡ rule.multiplier * c.solar + rule.divisor
  -- the limit leaves a distance of less than seventeen days
  pub limit_near : rule.multiplier * (c.solar * c.units) < 16 * (rule.divisor * c.units) + rule.multiplier * rule.limit
  -- a mean month and the shortfall are thirty days
  pub month_and_shortfall : c.month + rule.shortfall ≡ 30 * c.lunar
  pub shortfall_some : 0 < rule.shortfall
