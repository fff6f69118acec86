-- Answers, computed: at the limits, beside them, and refused.
use Prim.Native.Nat.{ℕ}
use mathlib.Core.Path.{◌≡◌, refl}
use mathlib.Core.List.{[], ◌∷◌, ◌++◌, map}
use Rattle.std.proofs.Common.{Some, None}
use Rattle.reckoning.specs.ComputedRefusals.{year_refusal, step_refusal}
use Rattle.reckoning.specs.Filled.{filled}
use Rattle.reckoning.specs.Requests.{as_register_day, step_of}
use Rattle.submerged_extinguished.specs.Records.{DayAnswer}
use Rattle.submerged_extinguished.specs.Rules.{guantian_rule, jiyuan_rule}
use Rattle.submerged_extinguished.specs.Answers.{submerged_by, extinguished_by, submerged_after, answer_at, submerged_in, submerged_of}
use Rattle.submerged_extinguished.specs.Answers.{extinguished_from, extinguished_days_of, extinguished_of}

-- So many days after a day, and none after it.
abbrev after : ℕ → ℕ → DayAnswer
after days day = answer_at (as_register_day day) (Some days)

abbrev none_after : ℕ → DayAnswer
none_after day = answer_at (as_register_day day) None

-- Remainders of Guantian: 9,401 parts and 24 small units, the last before the limit; 9,403 and 12, the first after it;
-- 12,028 and 12, the greatest; 10,628 and 12, where small units left out would give 9.
pub guantian_submerged :
    submerged_of 1 1094 1
    ∷ submerged_of 1 1209 5
    ∷ submerged_of 1 1087 22
    ∷ submerged_of 1 1029 19
    ∷ submerged_of 1 960 13
    ∷ []
    ≡ after 7 2_120_640 ∷ none_after 2_162_704 ∷ after 15 2_118_403 ∷ after 1 2_097_173 ∷ after 8 2_071_880 ∷ []
unfolding submerged_in submerged_by step_of step_refusal
guantian_submerged = refl

-- Of Jiyuan: 5,697 parts; and a quarter; and a half; 7,289 and three quarters, the greatest; 6,759 and three quarters,
-- where quarters left out would give 6.
pub jiyuan_submerged :
    submerged_of 2 1884 12
    ∷ submerged_of 2 2104 23
    ∷ submerged_of 2 1110 10
    ∷ submerged_of 2 1884 13
    ∷ submerged_of 2 1072 21
    ∷ []
    ≡ none_after 2_409_350 ∷ after 16 2_489_871 ∷ after 15 2_126_621 ∷ after 1 2_409_365 ∷ after 5 2_112_909 ∷ []
unfolding submerged_in submerged_by step_of step_refusal
jiyuan_submerged = refl

-- Qi 0 and 24 of a year, and 24 of the last.
pub first_and_last_qi : submerged_of 2 1107 0 ∷ submerged_of 1 1094 24 ∷ submerged_of 1 3000 24 ∷ []
    ≡ after 10 2_125_373 ∷ after 6 2_120_990 ∷ none_after 2_817_145 ∷ []
unfolding submerged_in submerged_by step_of step_refusal
first_and_last_qi = refl

-- Refused: a number, day 0 and no distance; the system first, then the year, then the qi.
abbrev refused : ℕ → DayAnswer
refused number = record { refusal = number; day = record { 0 = 0 }; distance = None }

pub submerged_refused :
    submerged_of 3 1094 1
    ∷ submerged_of 3 0 25
    ∷ submerged_of 0 1094 1
    ∷ submerged_of 1 0 25
    ∷ submerged_of 2 3001 0
    ∷ submerged_of 1 1094 25
    ∷ []
    ≡ refused 4 ∷ refused 4 ∷ refused 4 ∷ refused 5 ∷ refused 5 ∷ refused 9 ∷ []
unfolding submerged_in submerged_by step_of step_refusal
submerged_refused = refl

-- At the limits, where no year has such a remainder: 9,401 parts and 35 small units, and 9,402; 5,697, and a quarter.
pub submerged_limits :
    submerged_after 1 9401 35 ∷ submerged_after 1 9402 0 ∷ submerged_after 2 5697 0 ∷ submerged_after 2 5697 1 ∷ []
    ≡ None ∷ Some 15 ∷ None ∷ Some 16 ∷ []
unfolding submerged_by
submerged_limits = refl

-- Where 30 times the remainder comes to the divisor, and at the shortfall.
pub extinguished_limits :
    map (extinguished_by guantian_rule) (0 ∷ 188 ∷ 189 ∷ 5646 ∷ 5647 ∷ [])
    ++ map (extinguished_by jiyuan_rule) (0 ∷ 114 ∷ 115 ∷ 3421 ∷ 3422 ∷ [])
    ≡ Some 0 ∷ Some 0 ∷ Some 1 ∷ Some 29 ∷ None ∷ Some 0 ∷ Some 0 ∷ Some 1 ∷ Some 29 ∷ None ∷ []
unfolding extinguished_by
extinguished_limits = refl

-- Remainders of Guantian: 5,647, the shortfall, and 0, a new moon later; 5,646. Of Jiyuan: 3,422 and 0; 3,420.
pub extinguished_days :
    extinguished_of 1 1094 2
    ∷ extinguished_of 1 1101 8
    ∷ extinguished_of 1 1101 9
    ∷ extinguished_of 1 952 4
    ∷ extinguished_of 2 1105 8
    ∷ extinguished_of 2 1105 9
    ∷ extinguished_of 2 1032 12
    ∷ []
    ≡ after 7 2_120_631
    ∷ none_after 2_123_377
    ∷ after 0 2_123_407
    ∷ after 29 2_068_834
    ∷ none_after 2_124_824
    ∷ after 0 2_124_854
    ∷ after 29 2_098_276
    ∷ []
unfolding extinguished_of extinguished_days_of extinguished_from extinguished_by year_refusal filled
extinguished_days = refl

-- The first place and the last: 1092 has twelve months, and 1094 thirteen.
pub first_and_last_moon : extinguished_of 2 1107 1 ∷ extinguished_of 1 1092 12 ∷ extinguished_of 1 1094 13 ∷ []
    ≡ after 1 2_125_356 ∷ none_after 2_120_217 ∷ none_after 2_120_955 ∷ []
unfolding extinguished_of extinguished_days_of extinguished_from extinguished_by year_refusal filled
first_and_last_moon = refl

-- Refused: the system, the year, and places that the year lacks.
pub extinguished_refused :
    extinguished_of 3 1094 1
    ∷ extinguished_of 3 0 0
    ∷ extinguished_of 2 0 14
    ∷ extinguished_of 1 3001 1
    ∷ extinguished_of 1 1092 13
    ∷ extinguished_of 1 1094 14
    ∷ extinguished_of 1 1094 0
    ∷ []
    ≡ refused 4 ∷ refused 4 ∷ refused 5 ∷ refused 5 ∷ refused 7 ∷ refused 7 ∷ refused 7 ∷ []
unfolding extinguished_of extinguished_days_of extinguished_from extinguished_by year_refusal filled
extinguished_refused = refl
