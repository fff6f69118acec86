-- A comparison with the two systems the other way round.
use Rattle.std.specs.Prelude.{map, neg_ℤ}
use Rattle.comparison.specs.Answers.{ComparisonAnswer}
use Rattle.comparison.specs.declared.data.Difference.{Difference}
use Rattle.comparison.specs.declared.data.Difference.TheVariants.{Days, FirstLacks, SecondLacks}
use Rattle.comparison.specs.declared.data.Listed.{Listed}

-- The sign of a difference changes, and which system lacks a month is exchanged.
abbrev pub other_way : Difference → Difference
other_way (Days days) = Days (neg_ℤ days)
other_way FirstLacks = SecondLacks
other_way SecondLacks = FirstLacks

abbrev pub other_way_at : Listed → Listed
other_way_at l = record { place = l.place; difference = other_way l.difference }

-- Nothing else changes.
abbrev pub swapped : ComparisonAnswer → ComparisonAnswer
swapped v = record { refusal = v.refusal; count = v.count; places = map other_way_at v.places }
