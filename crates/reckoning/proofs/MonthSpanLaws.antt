-- Months with their bounds: the code's numbers fit, and are those of the closed forms.
use Prim.Native.Nat.{ℕ, ◌+◌, ◌*◌, ◌-◌, ◌/◌, ◌%◌, ◌^◌, ◌≤◌, ◌<◌}
use mathlib.Core.Path.{◌≡◌, sym, ap, ap₂, ◌∙◌}
use native.Mathlib.Nat.{mod-lt}
use native.Mathlib.Omega.{arith}
use mir.Syntax.{w8}
use mir.Val.{Fits}
use Rattle.calendar.specs.declared.data.Constants.{Constants}
use Rattle.calendar.specs.Month.{new_moon_remainder, month_head}
use Rattle.calendar.specs.Calendar.{Calendar}
use Rattle.calendar.specs.ClosedForms.{month_of_day, qi_before, qi_of_month}
use Rattle.calendar.proofs.Reckoned.{reckoned, month_some}
use Rattle.calendar.proofs.EveryCalendar.{month_of_day_most}
use Rattle.calendar.proofs.HeldQi.{moon_told}
use Rattle.calendar.proofs.Remainders.{parts_into, days_before, days_after, twelfths_since, twelfths_in, leap_by_twelfths, ordinary_by_twelfths}
use Rattle.reckoning.specs.declared.closed_forms.LastStep.{LastStep}
use Rattle.reckoning.specs.declared.month_spans.MonthSpan.{MonthSpan}
use Rattle.reckoning.specs.LastSteps.{last_step}
use Rattle.reckoning.specs.MonthSpans.{month_span, last_qi}
use Rattle.reckoning.specs.WordBounds.{ConstantsFit, SpanFits}

-- A month with its bounds fits where its count does.
pub span_fits : {c : Constants} {m : MonthSpan} (k : ℕ) → ConstantsFit c → m ≡ month_span c k → k + 2 < 2 ^ 32 → SpanFits c m
span_fits {c} {m} k fit e small =
    let same : m.month ≡ k = ap (λ x. x.month) e in
    record { constants_fit = fit; is = e ∙ ap (month_span c) (sym same); small = omega arith }

-- The month of day d, by what the division leaves over.
module _ {c : Constants} (fit : ConstantsFit c) (d : ℕ) where
  into_below : parts_into c d < c.month
  into_below = mod-lt ((d + 1) * c.lunar - 1) (month_some c fit.consistent)

  pub span_of_day : record {
    month = month_of_day c d;
    head = d - parts_into c d / c.lunar;
    next = d + 1 + (c.month - parts_into c d - 1) / c.lunar;
  } ≡ month_span c (month_of_day c d)
  span_of_day =
      let head : d - parts_into c d / c.lunar ≡ month_head c (month_of_day c d) = omega (arith, days_before c fit.consistent d) in
      let next = sym (days_after c fit.consistent d) in
      λ j. record { month = month_of_day c d; head = head j; next = next j }

  -- the day's place in it
  module _ {m : MonthSpan} (month : m ≡ month_span c (month_of_day c d)) where
    day_head_is : m.head ≡ month_head c (month_of_day c d)
    day_head_is = ap (λ x. x.head) month

    pub place_from : m.head ≤ d
    place_from = omega (arith, day_head_is, (reckoned c fit.consistent).day_from d)

    pub place_fits : Fits w8 (d - m.head + 1)
    place_fits =
        let K = reckoned c fit.consistent in
        omega (arith, day_head_is, K.day_before d, K.month_most (month_of_day c d))

  -- it fits where the day does
  pub day_span_fits : {m : MonthSpan} → d < 2 ^ 36 → m ≡ month_span c (month_of_day c d) → SpanFits c m
  day_span_fits h e =
      span_fits (month_of_day c d) fit e (omega (arith, month_of_day_most (reckoned c fit.consistent) d))

-- The last middle qi of month m, by what the division leaves over.
module _ {c : Constants} {m : MonthSpan} (s : SpanFits c m) where
  abbrev k : ℕ
  k = m.month

  abbrev K : Calendar
  K = reckoned c s.constants_fit.consistent

  head_is : m.head ≡ month_head c k
  head_is = ap (λ x. x.head) s.is

  next_is : m.next ≡ month_head c (k + 1)
  next_is = ap (λ x. x.next) s.is

  pub length_fits_byte : Fits w8 (m.next - m.head)
  length_fits_byte = omega (arith, head_is, next_is, K.month_most k)

  in_is : (m.next - m.head) * (12 * c.solar) ≡ twelfths_in c k
  in_is = ap₂ (λ x y. (x - y) * (12 * c.solar)) next_is head_is

  module _ {last : LastStep} (found : last ≡ last_step c 12 m.next) where
    step_is : last.step ≡ qi_of_month c k
    step_is = ap (λ x. x.step) found ∙ ap (qi_before c) next_is

    left_is : last.left ≡ twelfths_since c k
    left_is = ap (λ x. x.left) found ∙ ap (λ x. (x * (12 * c.solar) - 1) % c.year) next_is

    pub last_ordinary : last.left < (m.next - m.head) * (12 * c.solar)
        → record { qi = last.step; leap = 0 } ≡ last_qi c k
    last_ordinary h =
        let leap = sym (ordinary_by_twelfths c s.constants_fit.consistent k (omega (arith, left_is, in_is))) in
        λ j. record { qi = step_is j; leap = leap j }

    pub last_leap_lem : (m.next - m.head) * (12 * c.solar) ≤ last.left
        → record { qi = last.step; leap = 1 } ≡ last_qi c k
    last_leap_lem h =
        let leap = sym (leap_by_twelfths c s.constants_fit.consistent k (omega (arith, left_is, in_is))) in
        λ j. record { qi = step_is j; leap = leap j }

  -- The remainder of its new moon, by its head.
  by_head : m.head * c.lunar + new_moon_remainder c k ≡ k * c.month
  by_head = omega (arith, ap (λ d. d * c.lunar) head_is, moon_told c s.constants_fit.consistent k)

  pub remainder_is : k * c.month - m.head * c.lunar ≡ new_moon_remainder c k
  remainder_is = omega (arith, by_head)
