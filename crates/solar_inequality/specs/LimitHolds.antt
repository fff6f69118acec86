-- What the laws ask of a limit: a short list, checked for each season by computing.
use Rattle.std.specs.Prelude.{◌*◌, ◌^◌, ◌≤◌, ◌<◌}
use Rattle.solar_inequality.specs.declared.limits.Limit.{Limit}
use Rattle.solar_inequality.specs.Limits.{in_day}

pub record LimitHolds (l : Limit) : Type 0 where
  pub divisor_some : 0 < l.divisor
  -- bounds of machine words; with so small a divisor the amount also rises from day to day
  pub parts_small : l.parts < 2 ^ 21
  pub divisor_small : l.divisor < 2 ^ 12
  -- at the limit itself the amount is below 2.4001 degrees
  pub amount_most : 10_000 * (l.parts * l.parts) < 24_001 * (in_day * in_day * l.divisor)
  -- 7,480 parts, the least that is taken of a day but day 0, give a ten-thousandth of a degree at least
  pub amount_least : in_day * in_day * l.divisor ≤ 10_000 * (7480 * l.parts)
