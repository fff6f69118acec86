-- The sun's excess and shortfall: paper 02, Q-12. What is said of an answer is said for every input.
use Prim.Native.Nat.{ℕ, ◌+◌, ◌*◌, ◌-◌, ◌≤◌, ◌<◌}
use mathlib.Core.Path.{◌≡◌, refl, sym, ap, subst, ◌∙◌}
use mathlib.Core.Logic.{◌↔◌}
use mathlib.Core.List.{[], ◌∷◌}
use native.Mathlib.Omega.{arith}
use Rattle.calendar.specs.Systems.{guantian}
use Rattle.calendar.proofs.Rising.{by_order}
use Rattle.reckoning.specs.RefusalNumbers.{DAY}
use Rattle.solar_inequality.specs.Records.{AmountAnswer}
use Rattle.solar_inequality.specs.declared.data.Season.{Season}
use Rattle.solar_inequality.specs.declared.data.Season.TheVariants.{Winter, Summer}
use Rattle.solar_inequality.specs.declared.taken.Taken.{Taken}
use Rattle.solar_inequality.specs.Limits.{in_day, winter_limit, summer_limit, limit_of, half_year, other}
use Rattle.solar_inequality.specs.Outcome.{AmountSays, Outcome}
use Rattle.solar_inequality.specs.Answers.{as_it_is, left_of_half_year, taken_of, amount_taken, answer_of}
use Rattle.solar_inequality.proofs.Answering.{refused_past, answered_by}
use Rattle.solar_inequality.proofs.LimitLaws as Limits
use Rattle.solar_inequality.proofs.Taking as Taking

-- The amount by the limit that is used.
module _ (t : Taken) (within : t.parts ≤ (limit_of t.season).parts) where
  taken_says : AmountSays (limit_of t.season) t.parts (amount_taken t)
  unfolding amount_taken
  taken_says = Limits.amount_says (limit_of t.season) (Taking.limit_holds t.season) t.parts within

  taken_alone : (amount : ℕ) → AmountSays (limit_of t.season) t.parts amount → amount ≡ amount_taken t
  unfolding amount_taken
  taken_alone = Limits.amount_alone (limit_of t.season) (Taking.limit_holds t.season) t.parts within

  taken_most : amount_taken t ≤ 24_000
  unfolding amount_taken
  taken_most = Limits.most (limit_of t.season) (Taking.limit_holds t.season) t.parts within

  taken_some : 7480 ≤ t.parts → 1 ≤ amount_taken t
  unfolding amount_taken
  taken_some = Limits.some (limit_of t.season) (Taking.limit_holds t.season) t.parts within

module _ (season : Season) (x : ℕ) where
  refused_is : 182 < x → answer_of season x ≡ record { refusal = DAY; amount = 0 }
  refused_is h = sym (refused_past season x h)

  answered_is : x ≤ 182 → answer_of season x ≡ record { refusal = 0; amount = amount_taken (taken_of season x) }
  answered_is h = sym (answered_by season x h refl refl)

  -- Each request ends as the paper says,
  pub answered : Outcome season x (answer_of season x)
  answered =
      by_order 182 x
      (λ past. subst (Outcome season x) (refused_past season x past) (Outcome.refused past refl refl))
      (λ day.
      subst (Outcome season x) (sym (answered_is day))
      (Outcome.answered day refl (taken_of season x) (Taking.takes season x day) (taken_says (taken_of season x) (Taking.within season x day))))

  -- and there is no other answer of which that holds.
  pub answered_alone : (v : AmountAnswer) → Outcome season x v → v ≡ answer_of season x
  answered_alone v (Outcome.refused past refusal amount) =
      (λ j. record { refusal = refusal j; amount = amount j }) ∙ refused_past season x past
  answered_alone v (Outcome.answered day refusal t takes says) =
      let is = Taking.takes_alone season x day t takes in
      let within = subst (λ u. u.parts ≤ (limit_of u.season).parts) (sym is) (Taking.within season x day) in
      let amount = taken_alone t within v.amount says in
      (λ j. record { refusal = refusal j; amount = amount j }) ∙ answered_by season x day is refl

  -- The amount is at most 2.4 degrees,
  pub at_most : (answer_of season x).amount ≤ 24_000
  at_most =
      by_order 182 x
      (λ past. omega (arith, ap (λ v. v.amount) (refused_is past)))
      (λ day. omega (arith, ap (λ v. v.amount) (answered_is day), taken_most (taken_of season x) (Taking.within season x day)))

-- which is reached.
pub most_reached : answer_of Winter 89 ≡ record { refusal = 0; amount = 24_000 }
unfolding answer_of taken_of amount_taken
most_reached = refl

-- Day 0 gives 0 after either solstice, and day 1 after winter gives 536.
pub day_0 : (season : Season) → answer_of season 0 ≡ record { refusal = 0; amount = 0 }
unfolding answer_of taken_of amount_taken
day_0 Winter = refl
day_0 Summer = refl

pub day_1_after_winter : answer_of Winter 1 ≡ record { refusal = 0; amount = 536 }
unfolding answer_of taken_of amount_taken
day_1_after_winter = refl

-- It is 0 on day 0 alone, of the days that are answered.
pub zero_just_on_day_0 : (season : Season) (x : ℕ) → x ≤ 182 → ((answer_of season x).amount ≡ 0) ↔ (x ≡ 0)
zero_just_on_day_0 season x day = (
  λ zero.
      by_order 0 x
      (λ later.
      absurd
      (omega (
        arith,
        ap (λ v. v.amount) (answered_is season x day),
        taken_some (taken_of season x) (Taking.within season x day) (Taking.taken_least season x day later),
      )))
      (λ h. omega arith),
  λ first. ap (λ y. (answer_of season y).amount) first ∙ ap (λ v. v.amount) (day_0 season),
)

-- The turn. 182 and 7,480/12,030 days are half a year, from one solstice to the next, and the two limits together: beyond
-- the one, what is left up to the next solstice is less than the other.
pub half_a_year : 2 * half_year ≡ guantian.year
half_a_year = refl

pub limits_meet : (season : Season) → (limit_of season).parts + (limit_of (other season)).parts ≡ half_year
limits_meet = Taking.limits_meet

-- So what is taken is never more than the limit that is used, and 2L less x never less than L.
pub within_limit : (season : Season) (x : ℕ) → x ≤ 182 → (taken_of season x).parts ≤ (limit_of (taken_of season x).season).parts
within_limit = Taking.within

-- Days 88 after winter and 93 after summer are the last that are taken as they are; of the next, what is taken is
-- 7,480/12,030 more than 93 or 88 days, by the other season's limit.
pub around_the_turn :
    taken_of Winter 88 ∷ taken_of Winter 89 ∷ taken_of Summer 93 ∷ taken_of Summer 94 ∷ []
    ≡ record { parts = 88 * 12_030; season = Winter }
    ∷ record { parts = 93 * 12_030 + 7480; season = Summer }
    ∷ record { parts = 93 * 12_030; season = Summer }
    ∷ record { parts = 88 * 12_030 + 7480; season = Winter }
    ∷ []
unfolding taken_of
around_the_turn = refl

pub as_it_is_after_winter : (x : ℕ) → (x * in_day ≤ winter_limit.parts) ↔ (x ≤ 88)
as_it_is_after_winter x = (λ h. omega arith, λ h. omega arith)

pub as_it_is_after_summer : (x : ℕ) → (x * in_day ≤ summer_limit.parts) ↔ (x ≤ 93)
as_it_is_after_summer x = (λ h. omega arith, λ h. omega arith)

amount_of : (season : Season) (x : ℕ) (t : Taken) → x ≤ 182 → t ≡ taken_of season x → amount_taken t ≡ (answer_of season x).amount
amount_of season x t day is = ap (λ v. v.amount) (answered_by season x day is refl)

-- Up to the turn the amount rises from day to day, and beyond it falls.
module _ (season : Season) (x y : ℕ) (later : x < y) where
  pub rises : y * in_day ≤ (limit_of season).parts → (answer_of season x).amount < (answer_of season y).amount
  unfolding amount_taken
  rises up_to_lem =
      let day : y ≤ 182 = omega (arith, limits_meet season) in
      let first = amount_of season x (as_it_is season x) (omega arith) (Taking.taken_as_it_is season x (omega arith)) in
      let last = amount_of season y (as_it_is season y) day (Taking.taken_as_it_is season y up_to_lem) in
      omega (arith, Limits.rises (limit_of season) (Taking.limit_holds season) (x * in_day) (y * in_day) (omega arith) up_to_lem)

  pub falls : (limit_of season).parts < x * in_day → y ≤ 182 → (answer_of season y).amount < (answer_of season x).amount
  unfolding amount_taken
  falls beyond day =
      let first = amount_of season x (left_of_half_year season x) (omega arith) (Taking.taken_beyond season x beyond) in
      let last = amount_of season y (left_of_half_year season y) day (Taking.taken_beyond season y (omega arith)) in
      omega (
        arith,
        Limits.rises (limit_of (other season)) (Taking.limit_holds (other season)) (half_year - y * in_day) (half_year - x * in_day)
            (omega arith)
            (omega (arith, limits_meet season)),
      )
