-- Three years in which Guantian and Jiyuan differ, computed: by leap marks, by a head, and by a month that one lacks.
use Prim.Native.Nat.{ℕ}
use mathlib.Core.Path.{◌≡◌, refl}
use mathlib.Core.List.{List, [], ◌∷◌, map}
use lib.IntN.{pos, negsuc}
use lib.ListN.{take}
use Rattle.reckoning.specs.ComputedRefusals.{year_refusal}
use Rattle.reckoning.specs.Filled.{filled}
use Rattle.reckoning.specs.Requests.{months_from, year_of}
use Rattle.comparison.specs.declared.data.Difference.TheVariants.{Days, FirstLacks, SecondLacks}
use Rattle.comparison.specs.declared.data.Listed.{Listed}
use Rattle.comparison.specs.Comparisons.{comparison_refusal, same_month, is_listed, difference_at, places_up_to, listing}
use Rattle.comparison.specs.Comparisons.{comparison_of}

-- The places that are listed.
abbrev listed : ℕ → ℕ → ℕ → List Listed
listed first second year = let v = comparison_of first second year in take v.count v.places

pub examples : map (listed 1 2) (1162 ∷ 1105 ∷ 2022 ∷ [])
    ≡ (record { place = 5; difference = Days (pos 0) } ∷ record { place = 6; difference = Days (pos 0) } ∷ [])
    ∷ (record { place = 9; difference = Days (pos 1) } ∷ [])
    ∷ (record { place = 13; difference = FirstLacks } ∷ [])
    ∷ []
unfolding comparison_of comparison_refusal listing places_up_to is_listed same_month difference_at year_of year_refusal months_from filled
examples = refl

-- The other way round.
pub examples_swapped : map (listed 2 1) (1105 ∷ 2022 ∷ [])
    ≡ (record { place = 9; difference = Days (negsuc 0) } ∷ []) ∷ (record { place = 13; difference = SecondLacks } ∷ []) ∷ []
unfolding comparison_of comparison_refusal listing places_up_to is_listed same_month difference_at year_of year_refusal months_from filled
examples_swapped = refl
