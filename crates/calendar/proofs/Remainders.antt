-- What divisions leave over: a month's bounds from the day that finds it, and its leap mark from the qi found.
use Prim.Native.Nat.{ℕ, ◌+◌, ◌*◌, ◌-◌, ◌/◌, ◌%◌, ◌≤◌, ◌<◌}
use mathlib.Core.Path.{◌≡◌, sym, ap, ◌∙◌}
use native.Mathlib.Nat.{div-add-mod', mod-lt, mul-pos, div-eq_of_lt-le, mul-add-div_right, le-div_iff_mul-le, div-lt_iff_lt-mul}
use native.Mathlib.Omega.{arith}
use Rattle.calendar.specs.declared.data.Constants.{Constants}
use Rattle.calendar.specs.Month.{new_moon, month_head}
use Rattle.calendar.specs.Consistent.{Consistent}
use Rattle.calendar.specs.Calendar.{Calendar}
use Rattle.calendar.specs.ClosedForms.{month_of_day, day_of_qi, qi_of_month, leap_mark}
use Rattle.calendar.proofs.EveryCalendar.{behind_most}
use Rattle.calendar.proofs.Reckoned.{reckoned, month_some, twelfths_some, month_from, month_before}

-- Parts from the new moon of the month that has day d to the day's last part: (d + 1) D - 1 is k M and these.
abbrev pub parts_into : Constants → ℕ → ℕ
parts_into c d = ((d + 1) * c.lunar - 1) % c.month

-- Twelfths of parts from the last middle qi of month k to the month's last part: with D the solar parts in a day,
-- 12 D times the next head, less 1, is g Y and these.
abbrev pub twelfths_since : Constants → ℕ → ℕ
twelfths_since c k = (month_head c (k + 1) * (12 * c.solar) - 1) % c.year

-- Twelfths of parts in the days of month k.
abbrev pub twelfths_in : Constants → ℕ → ℕ
twelfths_in c k = (month_head c (k + 1) - month_head c k) * (12 * c.solar)

module _ (c : Constants) (ok : Consistent c) where
  abbrev K : Calendar
  K = reckoned c ok

  whole : (d : ℕ) → new_moon c (month_of_day c d) + parts_into c d + 1 ≡ (d + 1) * c.lunar
  whole d = omega (arith, div-add-mod' ((d + 1) * c.lunar - 1) c.month, ok.lunar_some)

  -- So many whole days of its month lie before day d,
  pub days_before : (d : ℕ) → month_head c (month_of_day c d) + parts_into c d / c.lunar ≡ d
  days_before d =
      let moon = new_moon c (month_of_day c d) in
      let head = month_head c (month_of_day c d) in
      let days = d - head in
      let e : d ≡ head + days = omega (arith, K.day_from d) in
      let all = ap (λ x. (x + 1) * c.lunar) e in
      let split = div-add-mod' moon c.lunar in
      let left = mod-lt moon ok.lunar_some in
      let same : parts_into c d / c.lunar ≡ days = div-eq_of_lt-le c.lunar (omega (arith, whole d)) (omega (arith, whole d)) in
      omega arith

  -- and so many after it, in the parts that are left of the month.
  pub days_after : (d : ℕ) → month_head c (month_of_day c d + 1) ≡ d + 1 + (c.month - parts_into c d - 1) / c.lunar
  days_after d =
      let left = mod-lt ((d + 1) * c.lunar - 1) (month_some c ok) in
      let split : new_moon c (month_of_day c d + 1) ≡ (d + 1) * c.lunar + (c.month - parts_into c d - 1) = omega (arith, whole d) in
      ap (λ x. x / c.lunar) split ∙ mul-add-div_right ok.lunar_some (d + 1) (c.month - parts_into c d - 1)

  since : (k : ℕ) → qi_of_month c k * c.year + twelfths_since c k + 1 ≡ month_head c (k + 1) * (12 * c.solar)
  since k =
      let some = mul-pos {m = month_head c (k + 1)} (omega (arith, K.month_least k)) (twelfths_some c ok) in
      omega (arith, div-add-mod' (month_head c (k + 1) * (12 * c.solar) - 1) c.year)

  month_whole : (k : ℕ) → twelfths_in c k + month_head c k * (12 * c.solar) ≡ month_head c (k + 1) * (12 * c.solar)
  month_whole k =
      let length = month_head c (k + 1) - month_head c k in
      let e : month_head c (k + 1) ≡ length + month_head c k = omega (arith, K.month_least k) in
      sym (ap (λ x. x * (12 * c.solar)) e ∙ omega arith)

  -- Month k is leap just when no fewer are since its last middle qi than are in its days.
  pub leap_by_twelfths : (k : ℕ) → twelfths_in c k ≤ twelfths_since c k → leap_mark c k ≡ 1
  leap_by_twelfths k h =
      let g = qi_of_month c k in
      let early : day_of_qi c g < month_head c k = (div-lt_iff_lt-mul (twelfths_some c ok)).1 (omega (arith, since k, month_whole k)) in
      omega (arith, month_before c ok k (day_of_qi c g) early, behind_most K k)

  pub ordinary_by_twelfths : (k : ℕ) → twelfths_since c k < twelfths_in c k → leap_mark c k ≡ 0
  ordinary_by_twelfths k h =
      let g = qi_of_month c k in
      let inside : month_head c k ≤ day_of_qi c g = (le-div_iff_mul-le (twelfths_some c ok)).1 (omega (arith, since k, month_whole k)) in
      omega (arith, month_from c ok k (day_of_qi c g) inside)
