-- The heads of years, printed and reckoned.
use Prim.Native.Nat.{ℕ, ◌+◌, ◌-◌, ◌≤◌}
use mathlib.Core.Path.{◌≡◌, sym, ap, ap₂, subst, subst₂, ◌∙◌}
use native.Mathlib.Omega.{arith}
use Rattle.calendar.specs.declared.data.Constants.{Constants}
use Rattle.calendar.specs.declared.data.RegisterDay.{RegisterDay}
use Rattle.calendar.specs.Systems.{years_elapsed, register_day, count_day}
use Rattle.calendar.specs.Month.{month_head}
use Rattle.calendar.specs.Consistent.{Consistent}
use Rattle.calendar.specs.ClosedForms.{month_of_day, first_month, head_of_year, register_head}
use Rattle.calendar.proofs.EachSystem.{one_a_year}
use Rattle.calendar.proofs.Reckoned.{reckoned}
use Rattle.calendar.proofs.EveryCalendar.{month_unique, count_least}
use Rattle.reckoning.specs.declared.month_spans.MonthSpan.{MonthSpan}
use Rattle.reckoning.specs.MonthSpans.{month_span}
use Rattle.reckoning.specs.WordBounds.{InRegister, HeadInRegister, YearInRegister, YearsInRegister, MonthsInRegister}
use Rattle.reckoning.specs.Scope.{YearInScope}
use Rattle.reckoning.specs.Requests.{as_register_day, days_in, head_at, months_from, year_in}
use Rattle.reckoning.specs.Told.{days_answered}
use Rattle.reckoning.proofs.RegisterLaws.{months_in_register, first_head, next_head_lem, register_rises, register_length_most}

-- A year begins with the month of its head.
pub month_of_head : (c : Constants) → Consistent c → (n : ℕ) → month_of_day c (head_of_year c n) ≡ first_month c n
month_of_head c ok n =
    let K = reckoned c ok in
    let k = first_month c n in
    sym (month_unique K k (head_of_year c n) (omega arith) (omega (arith, K.month_least k)))

pub is_its_months_head : {c : Constants} (n : ℕ) {d : ℕ} → Consistent c → d ≡ head_of_year c n → month_head c (month_of_day c d) ≡ d
is_its_months_head {c} n ok e = ap (λ d. month_head c (month_of_day c d)) e ∙ ap (month_head c) (month_of_head c ok n) ∙ sym e

-- The head's count day is told from its register day.
module _ {c : Constants} {n : ℕ} {r : RegisterDay} (h : HeadInRegister c n) (e : r ≡ register_head c n) where
  pub count_day_lem : count_day c r.0 ≡ head_of_year c n
  count_day_lem = omega (arith, ap (λ x. x.0) e, h.head)

-- A year within the register has such a head, and so has the year after.
module _ {c : Constants} {n : ℕ} (y : YearInRegister c n) where
  pub head_of : HeadInRegister c n
  head_of = record { constants_fit = y.constants_fit; elapsed = omega (arith, y.elapsed); head = first_head c n y }

  pub head_after : HeadInRegister c (n + 1)
  head_after = record { constants_fit = y.constants_fit; elapsed = y.elapsed; head = next_head_lem c n y }

-- The year asked for, and the year after it.
module _ {c : Constants} (fits : YearsInRegister c) {year : ℕ} (s : YearInScope year) where
  abbrev n : ℕ
  n = years_elapsed c year

  y : YearInRegister c n
  y = fits.in_register year s

  one_more : years_elapsed c (year + 1) ≡ n + 1
  one_more = one_a_year c fits.constants_fit.consistent year

  pub head_asked : HeadInRegister c n
  head_asked = head_of y

  pub head_asked_next : HeadInRegister c (years_elapsed c (year + 1))
  head_asked_next = subst (HeadInRegister c) (sym one_more) (head_after y)

  -- its days are those from its head to the next
  module _ {head next : RegisterDay} (from : head ≡ register_head c n) (to : next ≡ register_head c (years_elapsed c (year + 1))) where
    from_is : head.0 ≡ register_day c (head_of_year c n)
    from_is = ap (λ d. d.0) from

    to_is : next.0 ≡ register_day c (head_of_year c (n + 1))
    to_is = ap (λ d. d.0) to ∙ ap (λ m. register_day c (head_of_year c m)) one_more

    pub days_between : (head.0 ≤ next.0) × (next.0 - head.0 ≤ 384)
    days_between =
        subst₂ (λ a b. (a ≤ b) × (b - a ≤ 384)) (sym from_is) (sym to_is) (register_rises c n y, register_length_most c n y)

    pub days_of_lem : days_answered (record { head = head; length = next.0 - head.0 }) ≡ days_in c n
    days_of_lem =
        let length = ap₂ (λ a b. b - a) from_is to_is in
        λ j. record { refusal = 0; head = from j; length = length j }

  -- and so are its months
  module _ {first next : MonthSpan} (from : first ≡ month_span c (first_month c n))
      (to : next ≡ month_span c (first_month c (years_elapsed c (year + 1))))
    where
      first_is : first.month ≡ first_month c n
      first_is = ap (λ m. m.month) from

      next_is : next.month ≡ first_month c (n + 1)
      next_is = ap (λ m. m.month) to ∙ ap (first_month c) one_more

      pub closing_in_register : InRegister c next.head
      closing_in_register = subst (λ m. InRegister c m.head) (sym to) head_asked_next.head

      pub months_rise : first.month ≤ next.month
      months_rise = omega (arith, first_is, next_is, count_least (reckoned c fits.constants_fit.consistent) n)

      pub months_listed : {closing : RegisterDay} → closing ≡ as_register_day (register_day c next.head)
          → (first ≡ month_span c first.month)
          × (closing ≡ head_at c first.month (next.month - first.month))
          × MonthsInRegister c first.month (next.month - first.month)
      months_listed e =
          let there : next.month ≡ first.month + (next.month - first.month) = omega (arith, months_rise) in
          let head : next.head ≡ month_head c next.month = ap (λ m. m.head) to ∙ ap (month_head c) (sym (ap (λ m. m.month) to)) in (
            from ∙ ap (month_span c) (sym first_is),
            e ∙ ap (λ d. as_register_day (register_day c d)) (head ∙ ap (month_head c) there),
            subst₂ (λ f m. MonthsInRegister c f (m - f)) (sym first_is) (sym next_is) (months_in_register c n y),
          )

      pub months_of : months_from c first.month (next.month - first.month) ≡ year_in c n
      months_of = ap₂ (λ f m. months_from c f (m - f)) first_is next_is
