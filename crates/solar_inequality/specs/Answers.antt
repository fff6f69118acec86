-- What is answered of the sun's excess and shortfall, for every input: paper 02, Q-12.
use Rattle.std.specs.Prelude.{ℕ, ◌*◌, ◌-◌, ◌/◌, cond, leb, ltb}
use Rattle.reckoning.specs.RefusalNumbers.{DAY}
use Rattle.solar_inequality.specs.Records.{AmountAnswer}
use Rattle.solar_inequality.specs.declared.data.Season.{Season}
use Rattle.solar_inequality.specs.declared.limits.Limit.{Limit}
use Rattle.solar_inequality.specs.declared.taken.Taken.{Taken}
use Rattle.solar_inequality.specs.Limits.{in_day, limit_of, half_year, other}

-- x as it is, and the season's L.
abbrev pub as_it_is : Season → ℕ → Taken
as_it_is season x = record { parts = x * in_day; season = season }

-- 182 and 7,480/12,030 less x, and the other season's L.
abbrev pub left_of_half_year : Season → ℕ → Taken
left_of_half_year season x = record { parts = half_year - x * in_day; season = other season }

-- The first where x is at most L, and the second beyond.
unfoldable pub taken_of : Season → ℕ → Taken
taken_of season x = cond (leb (x * in_day) (limit_of season).parts) (as_it_is season x) (left_of_half_year season x)

-- x (2L less x) by the divisor, in ten-thousandths; the one division.
abbrev pub amount_by : Limit → ℕ → ℕ
amount_by l x = 10_000 * (x * (2 * l.parts - x)) / (in_day * in_day * l.divisor)

-- With the L that is used.
unfoldable pub amount_taken : Taken → ℕ
amount_taken t = amount_by (limit_of t.season) t.parts

abbrev pub amount_answered : ℕ → AmountAnswer
amount_answered amount = record { refusal = 0; amount = amount }

-- Refused: with amount 0.
abbrev pub no_amount : ℕ → AmountAnswer
no_amount refusal = record { refusal = refusal; amount = 0 }

-- Above 182 refused.
unfoldable pub answer_of : Season → ℕ → AmountAnswer
answer_of season x = cond (ltb 182 x) (no_amount DAY) (amount_answered (amount_taken (taken_of season x)))
