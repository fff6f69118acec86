-- Answers, computed: the first days, both sides of the turn, the last days, and what is refused.
use Prim.Native.Nat.{ℕ}
use mathlib.Core.Path.{◌≡◌, refl}
use mathlib.Core.List.{[], ◌∷◌, ◌++◌, map}
use Rattle.solar_inequality.specs.Records.{AmountAnswer}
use Rattle.solar_inequality.specs.declared.data.Season.TheVariants.{Winter, Summer}
use Rattle.solar_inequality.specs.Answers.{taken_of, amount_taken, answer_of}

abbrev amount : ℕ → AmountAnswer
amount n = record { refusal = 0; amount = n }

abbrev refused : AmountAnswer
refused = record { refusal = 7; amount = 0 }

-- Day 88 is 23,996.1 and day 89 is 24,000.3; day 1 is 536.8, which is cut down.
pub after_winter :
    map (answer_of Winter) (0 ∷ 1 ∷ 2 ∷ 45 ∷ 88 ∷ 89 ∷ 90 ∷ 181 ∷ 182 ∷ [])
    ≡ map amount (0 ∷ 536 ∷ 1067 ∷ 18_145 ∷ 23_996 ∷ 24_000 ∷ 23_997 ∷ 823 ∷ 317 ∷ [])
unfolding answer_of taken_of amount_taken
after_winter = refl

-- Day 93 is 23,998.98 and day 94 is 23,998.4.
pub after_summer :
    map (answer_of Summer) (0 ∷ 1 ∷ 2 ∷ 45 ∷ 92 ∷ 93 ∷ 94 ∷ 95 ∷ 181 ∷ 182 ∷ [])
    ≡ map amount (0 ∷ 509 ∷ 1013 ∷ 17_515 ∷ 23_992 ∷ 23_998 ∷ 23_998 ∷ 23_993 ∷ 867 ∷ 334 ∷ [])
unfolding answer_of taken_of amount_taken
after_summer = refl

pub past_182 : map (answer_of Winter) (183 ∷ 365 ∷ 4_294_967_295 ∷ []) ++ map (answer_of Summer) (183 ∷ 365 ∷ 4_294_967_295 ∷ [])
    ≡ refused ∷ refused ∷ refused ∷ refused ∷ refused ∷ refused ∷ []
unfolding answer_of
past_182 = refl
