-- How the leap month of a year is found: what each test shows, and what is left between the bounds.
use Prim.Native.Nat.{ℕ, ◌+◌, ◌*◌, ◌%◌, ◌≤◌, ◌<◌}
use mathlib.Core.Path.{◌≡◌, sym, ap, ◌∙◌}
use lib.Dec.{ltb}
use native.Mathlib.Omega.{arith}
use borrow.Author.Tests.{lt-ltb, le-ltb}
use Rattle.calendar.specs.declared.data.Constants.{Constants}
use Rattle.calendar.specs.Systems.{years_elapsed}
use Rattle.calendar.specs.Month.{month_head, number_of}
use Rattle.calendar.specs.ClosedForms.{day_of_qi, month_of_qi, first_month}
use Rattle.calendar.specs.LeapMonth.{leap_number, no_leap_up_to, LeapBetween}
use Rattle.calendar.proofs.Rising.{by_order}
use Rattle.calendar.proofs.Reckoned.{reckoned, month_from, month_before}
use Rattle.calendar.proofs.EveryCalendar.{first_rises}
use Rattle.calendar.proofs.LeapMonths.{number_before_leap, number_past_year}
use Rattle.reckoning.specs.declared.month_spans.MonthSpan.{MonthSpan}
use Rattle.reckoning.specs.MonthSpans.{month_span}
use Rattle.reckoning.specs.WordBounds.{FirstMonthFits, YearInRegister, YearsInRegister}

-- A middle qi falls before the end of a month just when its own month is no later.
pub leap_tested : {c : Constants} {n first : ℕ} → FirstMonthFits c n first → (i : ℕ) {day end : ℕ}
    → day ≡ day_of_qi c (12 * n + i)
    → end ≡ month_head c (first + i + 1)
    → ltb day end ≡ no_leap_up_to c n i
leap_tested {c} {n} {first} y i {day} {end} day_is end_is =
    let ok = y.constants_fit.consistent in
    let k = month_of_qi c (12 * n + i) in
    let past : first + i + 1 ≡ first_month c n + i + 1 = ap (λ m. m + i + 1) y.is_first in
    by_order day end
    (λ l.
    lt-ltb day end l
    ∙ sym (lt-ltb k (first_month c n + i + 1)
    (omega (arith, month_before c ok (first + i + 1) (day_of_qi c (12 * n + i)) (omega arith)))))
    (λ l.
    le-ltb day end l
    ∙ sym (le-ltb k (first_month c n + i + 1)
    (omega (arith, month_from c ok (first + i + 1) (day_of_qi c (12 * n + i)) (omega arith)))))

module _ {c : Constants} {n : ℕ} (r : YearInRegister c n) where
  pub from_first : {first : MonthSpan} → first ≡ month_span c (first_month c n) → FirstMonthFits c n first.month
  from_first is =
      let month_is = ap (λ m. m.month) is in
      record {
        constants_fit = r.constants_fit;
        elapsed = omega (arith, r.elapsed);
        is_first = month_is;
        small = omega (arith, r.months, first_rises (reckoned c r.constants_fit.consistent) n);
      }

-- What the last middle qi before it tells.
module _ {c : Constants} (fits : YearsInRegister c) (year : ℕ) {n last : ℕ} (is : n ≡ years_elapsed c year)
    (s : LeapBetween c n last (last + 1))
  where
    pub told_none : 12 ≤ last → 0 ≡ leap_number c (years_elapsed c year)
    told_none l = number_past_year c fits.constants_fit.consistent n _ s l ∙ ap (leap_number c) is

    pub told_number : last < 12 → {number : ℕ} → number ≡ number_of (last % 12) → number ≡ leap_number c (years_elapsed c year)
    told_number l e = e ∙ number_before_leap c fits.constants_fit.consistent n _ s l ∙ ap (leap_number c) is
