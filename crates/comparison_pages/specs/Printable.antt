-- Places that can be told: they have numbers from 1 to 13, and their days, in either direction, are of 32 bits.
use Rattle.std.specs.Prelude.{ℕ, ◌^◌, ◌≤◌, ◌<◌, nat_abs, get_or}
use Rattle.comparison.specs.Answers.{ComparisonAnswer}
use Rattle.comparison.specs.declared.data.Difference.{Difference}
use Rattle.comparison.specs.declared.data.Difference.TheVariants.{Days, FirstLacks, SecondLacks}
use Rattle.comparison.specs.declared.data.Listed.{Listed}
use Rattle.comparison.specs.Comparisons.{unused}

abbrev pub SmallDays : Difference → Type 0
SmallDays (Days days) = nat_abs days < 2 ^ 32
SmallDays FirstLacks = Unit {0}
SmallDays SecondLacks = Unit {0}

pub record PlacePrintable (listed : Listed) : Type 0 where
  pub from_first : 1 ≤ listed.place
  pub to_thirteenth : listed.place ≤ 13
  pub small_days : SmallDays listed.difference

pub record Printable (compared : ComparisonAnswer) : Type 0 where
  pub thirteen_at_most : compared.count ≤ 13
  pub place : (i : ℕ) → i < compared.count → PlacePrintable (get_or compared.places i unused)
