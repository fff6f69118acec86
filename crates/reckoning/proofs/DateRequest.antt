-- The date of a register day: from the epoch on its year tells whether it is in scope.
use Prim.Native.Nat.{ℕ, ◌+◌, ◌-◌, ◌/◌, ◌%◌}
use mathlib.Core.Path.{◌≡◌, sym, ap, ◌∙◌}
use mathlib.Core.Bool.{Bool, true, false}
use Rattle.calendar.specs.declared.data.Constants.{Constants}
use Rattle.calendar.specs.Systems.{count_day, before_epoch}
use Rattle.calendar.specs.Month.{month_head, number_of}
use Rattle.calendar.specs.Calendar.{Calendar}
use Rattle.calendar.specs.ClosedForms.{month_of_day, head_of_year, year_of_month}
use Rattle.calendar.proofs.Reckoned.{reckoned}
use Rattle.calendar.proofs.EveryCalendar.{year_from, year_before}
use Rattle.reckoning.specs.declared.month_spans.MonthSpan.{MonthSpan}
use Rattle.reckoning.specs.declared.month_spans.LastQi.{LastQi}
use Rattle.reckoning.specs.MonthSpans.{month_span, last_qi}
use Rattle.reckoning.specs.WordBounds.{ConstantsFit}
use Rattle.reckoning.specs.CommonYears.{common_year, out_of_scope}
use Rattle.reckoning.specs.Requests.{date_at, no_date, date_in}
use Rattle.reckoning.specs.RefusalNumbers.{DAY}
use Rattle.reckoning.proofs.YearOfDay.{before_years, is_its_day, day_outside, day_inside}

-- A day before the epoch.
pub date_before : (c : Constants) (r : ℕ) {early : Bool} → early ≡ before_epoch c r → early ≡ true
    → no_date DAY ≡ date_in c r
unfolding date_in
date_before c r test before = simp (before_years (head_of_year c) c r (sym test ∙ before))

-- The request for one from the epoch on, by the day's month and its last middle qi.
module _ {c : Constants} (fit : ConstantsFit c) (r : ℕ) {early : Bool} (tested : early ≡ before_epoch c r)
    (passed : early ≡ false)
    {d : ℕ}
    (day : d ≡ count_day c r)
    {m : MonthSpan}
    {last : LastQi}
    (month : m ≡ month_span c (month_of_day c d))
    (qi : last ≡ last_qi c m.month)
  where
    abbrev K : Calendar
    K = reckoned c fit.consistent

    abbrev k : ℕ
    k = month_of_day c d

    head_is : m.head ≡ month_head c k
    head_is = ap (λ x. x.head) month

    last_is : last ≡ last_qi c k
    last_is = qi ∙ ap (λ x. last_qi c x.month) month

    year_is : last.qi / 12 ≡ year_of_month c k
    year_is = ap (λ x. x.qi / 12) last_is

    -- its two cases, by its year
    module _ {b : Bool} (test : b ≡ out_of_scope c (last.qi / 12)) where
      scope_is : b ≡ out_of_scope c (year_of_month c k)
      scope_is = test ∙ ap (out_of_scope c) year_is

      pub date_outside : b ≡ true → no_date DAY ≡ date_in c r
      unfolding date_in
      date_outside out =
          simp (day_outside c fit.consistent.epoch_before (head_of_year c) r d (year_of_month c k) (is_its_day c r (sym tested ∙ passed) day)
          (λ m. year_from K m d)
          (λ m. year_before K m d)
          (sym scope_is ∙ out))

      pub date_inside : {number year : ℕ} → number ≡ number_of (last.qi % 12) → year ≡ common_year c (last.qi / 12) → b ≡ false
          → record { refusal = 0; year = year; month = number; leap = last.leap; day = d - m.head + 1 } ≡ date_in c r
      unfolding date_in
      date_inside number_is year-here-is inside =
          let year_here = year-here-is ∙ ap (common_year c) year_is in
          let number_here = number_is ∙ ap (λ x. number_of (x.qi % 12)) last_is in
          (λ j.
          record {
            refusal = 0;
            year = year_here j;
            month = number_here j;
            leap = (last_is j).leap;
            day = d - head_is j + 1;
          })
          ∙ ap (date_at c) day
          ∙ simp (day_inside c fit.consistent.epoch_before (head_of_year c) r d (year_of_month c k) (is_its_day c r (sym tested ∙ passed) day)
          (λ m. year_from K m d)
          (λ m. year_before K m d)
          (sym scope_is ∙ inside))
