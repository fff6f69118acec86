-- The sun's excess and shortfall in the words of paper 02, Q-12. Parts are numerators over 12,030.
use Rattle.std.specs.Prelude.{ℕ, ◌+◌, ◌*◌, ◌≤◌, ◌<◌, ◌≡◌}
use Rattle.calendar.specs.CutDown.{CutDown}
use Rattle.reckoning.specs.RefusalNumbers.{DAY}
use Rattle.solar_inequality.specs.Records.{AmountAnswer}
use Rattle.solar_inequality.specs.declared.data.Season.{Season}
use Rattle.solar_inequality.specs.declared.limits.Limit.{Limit}
use Rattle.solar_inequality.specs.declared.taken.Taken.{Taken}
use Rattle.solar_inequality.specs.Limits.{in_day, limit_of, half_year, other}

-- What is taken of x days after a solstice.
pub data Takes (season : Season) (x : ℕ) (t : Taken) : Type 0 where
  -- "If x is at most L, take x as it is."
  stays_as_it_is : x * in_day ≤ (limit_of season).parts → t.parts ≡ x * in_day → t.season ≡ season → Takes season x t
  -- "Beyond, take 182 and 7,480/12,030 less x, and the other season's L." Said by a sum, since a difference is cut at 0.
  beyond : (limit_of season).parts < x * in_day
      → t.parts + x * in_day ≡ half_year
      → t.season ≡ other season
      → Takes season x t

-- "The amount is x times (2L less x), divided by" the divisor, "in degrees. Give it in ten-thousandths, cut down." x and L
-- are so many parts, and the product of two such numbers is over 12,030 twice. The difference is said by a sum.
pub record AmountSays (l : Limit) (x amount : ℕ) : Type 0 where
  pub difference : ℕ
  pub is : difference + x ≡ 2 * l.parts
  pub cut : CutDown (10_000 * (x * difference)) (in_day * in_day * l.divisor) amount

-- "For whole days x from 0 to 182 after either solstice. Above 182: refusal 7" (DAY), with amount 0.
pub data Outcome (season : Season) (x : ℕ) (v : AmountAnswer) : Type 0 where
  refused : 182 < x → v.refusal ≡ DAY → v.amount ≡ 0 → Outcome season x v
  answered : x ≤ 182
      → v.refusal ≡ 0
      → (t : Taken)
      → Takes season x t
      → AmountSays (limit_of t.season) t.parts v.amount
      → Outcome season x v
