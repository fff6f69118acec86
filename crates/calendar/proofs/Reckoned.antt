-- Constants that meet the list make a calendar, by the closed forms.
use Prim.Native.Nat.{ℕ, ◌+◌, ◌*◌, ◌≤◌, ◌<◌}
use native.Mathlib.Omega.{arith}
use Rattle.calendar.specs.declared.data.Constants.{Constants}
use Rattle.calendar.specs.Month.{month_head}
use Rattle.calendar.specs.Consistent.{Consistent}
use Rattle.calendar.specs.Calendar.{Calendar}
use Rattle.calendar.specs.ClosedForms.{month_of_day, day_of_qi, month_of_qi, qi_of_month}
use Rattle.calendar.proofs.Division.{scaled_least, scaled_most, scaled_small, last_of_below, below_of_last, after_of_from, from_of_after}
use Rattle.calendar.proofs.Steps.{step_is_before, step_after_it}

module _ (c : Constants) (ok : Consistent c) where
  pub month_some : 0 < c.month
  month_some = omega (arith, ok)

  pub year_some : 0 < c.year
  year_some = omega (arith, ok)

  pub twelfths_some : 0 < 12 * c.solar
  twelfths_some = omega (arith, ok)

  -- in so many months the head rises by so many days
  pub head_least : (n s k : ℕ) → s * c.lunar ≤ n * c.month → month_head c k + s ≤ month_head c (k + n)
  head_least = scaled_least c.month c.lunar ok.lunar_some

  pub head_most : (n s k : ℕ) → n * c.month ≤ s * c.lunar → month_head c (k + n) ≤ month_head c k + s
  head_most = scaled_most c.month c.lunar ok.lunar_some

  -- the days of months and of middle qi, against their counts
  pub head_small : (k : ℕ) → month_head c k ≤ 30 * k
  head_small k = scaled_small c.month c.lunar ok.lunar_some 30 k (omega (arith, ok))

  pub qi_day_small : (g : ℕ) → day_of_qi c g ≤ 32 * g
  qi_day_small g = scaled_small c.year (12 * c.solar) twelfths_some 32 g (omega (arith, ok))

  -- a month whose head is d or earlier is the month of d or an earlier one, and one whose head is later is later
  pub month_from : (k d : ℕ) → month_head c k ≤ d → k ≤ month_of_day c d
  month_from k d h = last_of_below c.month c.lunar ok.lunar_some month_some k (d + 1) (omega arith)

  pub month_before : (k d : ℕ) → d < month_head c k → month_of_day c d < k
  month_before k d h =
      after_of_from c.month c.lunar ok.lunar_some month_some k (d + 1) (omega arith) (omega arith)

  pub day_from : (d : ℕ) → month_head c (month_of_day c d) ≤ d
  day_from d =
      let l : month_head c (month_of_day c d) < d + 1 =
      below_of_last c.month c.lunar ok.lunar_some month_some (month_of_day c d) (d + 1) (omega arith) (omega arith)
      in
      omega arith

  pub day_before : (d : ℕ) → d < month_head c (month_of_day c d + 1)
  day_before d =
      let l : d + 1 ≤ month_head c (month_of_day c d + 1) =
      from_of_after c.month c.lunar ok.lunar_some month_some (month_of_day c d + 1) (d + 1) (omega arith)
      in
      omega arith

  -- the next middle qi falls 30 days later at least, when the month has ended
  pub qi_rises : (g : ℕ) → month_of_qi c g < month_of_qi c (g + 1)
  qi_rises g =
      let k = month_of_qi c g in
      let later : day_of_qi c g + 30 ≤ day_of_qi c (g + 1) =
      scaled_least c.year (12 * c.solar) twelfths_some 1 30 g (omega (arith, ok.year_least))
      in
      let ended : month_head c (k + 1) ≤ month_head c k + 30 = head_most 1 30 k (omega (arith, ok)) in
      omega (arith, month_from (k + 1) (day_of_qi c (g + 1)) (omega (arith, day_from (day_of_qi c g))))

  -- the twelfth after it falls 383 days later at most, before thirteen more months have ended
  pub year_most : (g : ℕ) → month_of_qi c (g + 12) ≤ month_of_qi c g + 13
  year_most g =
      let k = month_of_qi c g in
      let later : day_of_qi c (g + 12) ≤ day_of_qi c g + 383 =
      scaled_most c.year (12 * c.solar) twelfths_some 12 383 g (omega (arith, ok.year_most))
      in
      let ended : month_head c (k + 1) + 383 ≤ month_head c (k + 1 + 13) = head_least 13 383 (k + 1) (omega (arith, ok)) in
      omega (arith, month_before (k + 1 + 13) (day_of_qi c (g + 12)) (omega (arith, day_before (day_of_qi c g))))

  pub qi_from : (k : ℕ) → month_of_qi c (qi_of_month c k) ≤ k
  qi_from k =
      let next : 0 < month_head c (k + 1) = omega (arith, head_least 1 29 k (omega (arith, ok))) in
      let g = qi_of_month c k in
      let inside : day_of_qi c g < month_head c (k + 1) =
      step_is_before c 12 (omega arith) ok.solar_some year_some (month_head c (k + 1)) next g (omega arith)
      in
      omega (arith, month_before (k + 1) (day_of_qi c g) inside)

  pub before_next_qi : (k : ℕ) → k < month_of_qi c (qi_of_month c k + 1)
  before_next_qi k =
      let g = qi_of_month c k + 1 in
      let past : month_head c (k + 1) ≤ day_of_qi c g =
      step_after_it c 12 (omega arith) ok.solar_some year_some (month_head c (k + 1))
      in
      omega (arith, month_from (k + 1) (day_of_qi c g) past)

  abbrev pub reckoned : Calendar
  reckoned =
      record {
        head = month_head c;
        month_of_day = month_of_day c;
        month_of_qi = month_of_qi c;
        qi_of_month = qi_of_month c;
        month_least = λ k. head_least 1 29 k (omega (arith, ok));
        month_most = λ k. head_most 1 30 k (omega (arith, ok));
        twelve_least = λ k. head_least 12 354 k ok.months_least;
        twelve_most = λ k. head_most 12 355 k (omega (arith, ok));
        thirteen_least = λ k. head_least 13 383 k (omega (arith, ok));
        thirteen_most = λ k. head_most 13 384 k ok.months_most;
        qi_rises = qi_rises;
        year_most = year_most;
        day_from = day_from;
        day_before = day_before;
        qi_from = qi_from;
        before_next_qi = before_next_qi;
      }
