-- The day of a year by its ordinal: its numbers fit, and its month's last middle qi tells whether the year has it.
use Prim.Native.Nat.{ℕ, ◌+◌, ◌*◌, ◌-◌, ◌%◌, ◌^◌, ◌≤◌, ◌<◌}
use mathlib.Core.Path.{◌≡◌, refl, ap, sym, subst, ◌∙◌}
use native.Mathlib.Omega.{arith}
use Rattle.calendar.specs.declared.data.Constants.{Constants}
use Rattle.calendar.specs.declared.data.RegisterDay.{RegisterDay}
use Rattle.calendar.specs.Inside.{Inside}
use Rattle.calendar.specs.Systems.{constants_of, years_elapsed, register_day, count_day}
use Rattle.calendar.specs.Month.{month_head, number_of}
use Rattle.calendar.specs.Calendar.{Calendar}
use Rattle.calendar.specs.ClosedForms.{month_of_day, qi_of_month, head_of_year, register_head}
use Rattle.calendar.proofs.Rising.{by_order}
use Rattle.calendar.proofs.Reckoned.{reckoned}
use Rattle.calendar.proofs.EveryCalendar.{year_from, year_before}
use Rattle.reckoning.specs.Answers.{YearHeadAnswer, OrdinalAnswer}
use Rattle.reckoning.specs.ComputedRefusals.{year_refusal}
use Rattle.reckoning.specs.Scope.{YearInScope, InScope}
use Rattle.reckoning.specs.declared.month_spans.MonthSpan.{MonthSpan}
use Rattle.reckoning.specs.declared.month_spans.LastQi.{LastQi}
use Rattle.reckoning.specs.MonthSpans.{month_span, last_qi}
use Rattle.reckoning.specs.RefusalNumbers.{YEAR, DAY}
use Rattle.reckoning.specs.Requests.{as_register_day, year_head_in, no_year_head, year_head_of, ordinal_day_at, no_ordinal_day, ordinal_day_in, ordinal_day_of}
use Rattle.reckoning.specs.WordBounds.{InRegister, YearInRegister, YearsInRegister}
use Rattle.reckoning.proofs.RefusalCases.{inside, outside_of}
use Rattle.reckoning.proofs.AnswerUnless.{refused_year, answered_year, by_answer}
use Rattle.reckoning.proofs.RegisterLaws.{year_asked, first_head, next_head_lem}
use Rattle.reckoning.proofs.HeadLaws.{head_of, count_day_lem}

-- No ordinal is 0.
pub no_ordinal : (c : Constants) (n : ℕ) {ordinal : ℕ} → ordinal ≡ 0 → no_ordinal_day DAY ≡ ordinal_day_in ordinal c n
unfolding ordinal_day_in
no_ordinal c n {ordinal} none =
    simp (outside_of 1 (head_of_year c (n + 1) - head_of_year c n) ordinal (λ i. omega (arith, i.at_least)))

-- One from 1 on, counted from the head.
module _ {c : Constants} (fits : YearsInRegister c) {year ordinal : ℕ} (s : YearInScope year) {first : RegisterDay}
    (first_is : first ≡ register_head c (years_elapsed c year))
    (some : 0 < ordinal)
    {n : ℕ}
    (years : n ≡ years_elapsed c year)
    {head : ℕ}
    (counted : head ≡ count_day c first.0)
  where
    y : YearInRegister c n
    y = year_asked fits s years

    from : head ≡ head_of_year c n
    from = counted ∙ count_day_lem (head_of (fits.in_register year s)) first_is ∙ ap (head_of_year c) (sym years)

    abbrev d : ℕ
    d = head + ordinal - 1

    pub day_small : ordinal < 2 ^ 16 → d + 1 < 2 ^ 36
    day_small small = omega (arith, from, first_head c n y, y.constants_fit)

    module _ {m : MonthSpan} {last : LastQi} (month : m ≡ month_span c (month_of_day c d)) (qi : last ≡ last_qi c m.month) where
      abbrev K : Calendar
      K = reckoned c y.constants_fit.consistent

      abbrev k : ℕ
      k = month_of_day c d

      last_is : last ≡ last_qi c k
      last_is = qi ∙ ap (λ x. last_qi c x.month) month

      qi_is : last.qi ≡ qi_of_month c k
      qi_is = ap (λ x. x.qi) last_is

      pub qi_from : 12 * n ≤ last.qi
      qi_from = omega (arith, qi_is, year_from K n d (omega (arith, from)))

      -- Past the year it has a middle qi of a later one.
      pub ordinal_past : 12 ≤ last.qi - 12 * n → no_ordinal_day DAY ≡ ordinal_day_in ordinal c (years_elapsed c year)
      unfolding ordinal_day_in
      ordinal_past h =
          let past : head_of_year c (n + 1) ≤ d =
          by_order d (head_of_year c (n + 1)) (λ l. absurd (omega (arith, qi_is, year_before K (n + 1) d l))) (λ l. l)
          in
          subst (λ m. no_ordinal_day DAY ≡ ordinal_day_in ordinal c m) years
          (simp (outside_of 1 (head_of_year c (n + 1) - head_of_year c n) ordinal (λ i. omega (arith, from, i.at_most))))

      -- In the year it has one of its own.
      module _ (h : last.qi - 12 * n < 12) where
        before_next : d < head_of_year c (n + 1)
        before_next =
            by_order d (head_of_year c (n + 1)) (λ l. l) (λ l. absurd (omega (arith, qi_is, year_from K (n + 1) d l)))

        pub ordinal_in_register : InRegister c d
        ordinal_in_register = omega (arith, from, first_head c n y, next_head_lem c n y, before_next)

        pub ordinal_found : {day : RegisterDay} {number : ℕ} → day ≡ as_register_day (register_day c d)
            → number ≡ number_of (last.qi - 12 * n)
            → record { refusal = 0; day = day; month = number; leap = last.leap; place = d - m.head + 1 } ≡ ordinal_day_in ordinal c (years_elapsed c year)
        unfolding ordinal_day_in
        ordinal_found day_is number_is =
            let head_is : m.head ≡ month_head c k = ap (λ x. x.head) month in
            let index : last.qi - 12 * n ≡ qi_of_month c k % 12 = omega (arith, qi_is, qi_from) in
            let number_here = number_is ∙ ap number_of index in
            let here : d ≡ head_of_year c n + ordinal - 1 = omega (arith, from) in
            let there = inside 1 (head_of_year c (n + 1) - head_of_year c n) ordinal
            (record { at_least = omega arith; at_most = omega (arith, from, before_next) })
            in
            (λ j.
            record {
              refusal = 0;
              day = day_is j;
              month = number_here j;
              leap = (last_is j).leap;
              place = d - head_is j + 1;
            })
            ∙ ap (ordinal_day_at c) here
            ∙ subst (λ x. ordinal_day_at c (head_of_year c n + ordinal - 1) ≡ ordinal_day_in ordinal c x) years (simp there)

-- The whole request, from the year's head.
module _ (system year ordinal : ℕ) {h : YearHeadAnswer} (is : h ≡ year_head_of system year) where
  by_head : {P : Type 0}
      → ((refusal : ℕ) → year_refusal system year ≡ refusal → Inside 1 YEAR refusal → h.refusal ≡ refusal → h ≡ no_year_head refusal → P)
      → (InScope system year → h ≡ year_head_in (constants_of system) (years_elapsed (constants_of system) year) → P)
      → P
  unfolding year_head_of
  by_head = by_answer (λ x. x.refusal) no_year_head (λ refusal. refl) year_head_in system year is

  pub head_refused : (h.refusal ≡ 0 → ⊥) → no_ordinal_day h.refusal ≡ ordinal_day_of system year ordinal
  unfolding ordinal_day_of
  head_refused some =
      by_head
      (λ refusal e i here blank.
      ap no_ordinal_day here ∙ sym (refused_year (ordinal_day_in ordinal) no_ordinal_day system year refusal e i.at_least))
      (λ s found. absurd (some (ap (λ x. x.refusal) found)))

  module _ (z : h.refusal ≡ 0) where
    pub head_in_scope : InScope system year
    head_in_scope = by_head (λ refusal e i here blank. absurd (omega (arith, i))) (λ s found. s)

    pub head_found : h.day ≡ register_head (constants_of system) (years_elapsed (constants_of system) year)
    head_found = by_head (λ refusal e i here blank. absurd (omega (arith, i))) (λ s found. ap (λ x. x.day) found)

    pub day_answered : {v : OrdinalAnswer} → v ≡ ordinal_day_in ordinal (constants_of system) (years_elapsed (constants_of system) year)
        → v ≡ ordinal_day_of system year ordinal
    unfolding ordinal_day_of
    day_answered e = e ∙ answered_year (ordinal_day_in ordinal) no_ordinal_day system year head_in_scope
