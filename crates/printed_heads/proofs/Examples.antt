-- The page's ends, and heads that the papers tell: paper 01, cases 2, 5 and 8, and years in which the rule of Q-2 gives
-- another head than that of moments.
use mathlib.Core.Path.{◌≡◌, refl}
use Rattle.std.specs.Prelude.{Some, None}
use Rattle.printed_heads.specs.PrintedHeads.{printed_head}

pub examples : (printed_head 1 959 ≡ None)
    × (printed_head 1 960 ≡ Some (record { 0 = 2_071_669 }))
    × (printed_head 1 1092 ≡ Some (record { 0 = 2_119_892 }))
    × (printed_head 1 1094 ≡ Some (record { 0 = 2_120_601 }))
    × (printed_head 1 1108 ≡ Some (record { 0 = 2_125_739 }))
    × (printed_head 1 1279 ≡ Some (record { 0 = 2_188_167 }))
    × (printed_head 1 1280 ≡ None)
    × (printed_head 2 1106 ≡ None)
unfolding printed_head
examples = (refl, refl, refl, refl, refl, refl, refl, refl)
