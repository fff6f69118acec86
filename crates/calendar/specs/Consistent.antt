-- What the laws ask of a system's constants: a short list, checked for each system by computing. Nothing in it sets the
-- sun's parts against the moon's.
use Rattle.std.specs.Prelude.{◌+◌, ◌*◌, ◌%◌, ◌≤◌, ◌<◌, ◌≡◌}
use Rattle.calendar.specs.declared.data.Constants.{Constants}
use Rattle.calendar.specs.Steps.{DividesYear}

pub record Consistent (c : Constants) : Type 0 where
  -- what moments are divided by
  pub solar_some : 0 < c.solar
  pub lunar_some : 0 < c.lunar
  pub units_some : 0 < c.units
  pub denominator_some : 0 < c.denominator
  -- months of 29 days at least, twelve of 354 and thirteen of 383
  pub months_least : 354 * c.lunar ≤ 12 * c.month
  -- months of 30 days at most, twelve of 355 and thirteen of 384
  pub months_most : 13 * c.month ≤ 384 * c.lunar
  -- 30 days at least from one middle qi to the next, as long as any month: no month holds two
  pub year_least : 360 * c.solar ≤ c.year
  -- 383 days at most from a middle qi to the twelfth after it, as short as any thirteen months: no year has fourteen
  pub year_most : c.year ≤ 383 * c.solar
  -- no qi is rounded, and no pentad
  pub qi_exact : DividesYear c 24 c.units
  pub pentads_exact : DividesYear c 72 c.denominator
  -- count day 0 has, in the round of sixty, the place of its register day
  pub names_agree : (c.anchor + c.name) % 60 ≡ (c.epoch + 49) % 60
  -- years are counted from an epoch before common year 1: the years elapsed rise by one a year
  pub epoch_before : c.common ≤ c.elapsed
