-- The month of a year with a number and a leap mark: what each case of the request answers.
use Prim.Native.Nat.{ℕ, ◌+◌, ◌%◌, ◌≤◌, ◌<◌}
use mathlib.Core.Path.{◌≡◌, refl, subst, sym, ap, ◌∙◌}
use mathlib.Core.Bool.{true, false}
use native.Mathlib.Omega.{arith}
use Rattle.std.proofs.Common.{Option, Result, Err}
use borrow.Author.Tests.{lt-ltb, le-ltb}
use Rattle.calendar.specs.declared.data.Constants.{Constants}
use Rattle.calendar.specs.Inside.{Inside}
use Rattle.calendar.specs.Systems.{constants_of, years_elapsed}
use Rattle.calendar.specs.Month.{month_head}
use Rattle.calendar.specs.Calendar.{Calendar}
use Rattle.calendar.specs.ClosedForms.{day_of_qi, month_of_qi, qi_of_number, leap_follows}
use Rattle.calendar.specs.LeapMonth.{leap_number}
use Rattle.calendar.proofs.Cases.{by_bool}
use Rattle.calendar.proofs.Reckoned.{reckoned, month_from, month_before}
use Rattle.calendar.proofs.EveryCalendar.{Within, within_of_qi}
use Rattle.reckoning.specs.Answers.{MonthAnswer}
use Rattle.reckoning.specs.declared.data.Month.{Month}
use Rattle.reckoning.specs.declared.refusal.Refusal.{Refusal}
use Rattle.reckoning.specs.declared.refusal.Refusal.TheVariants.{NotLeap}
use Rattle.reckoning.specs.declared.month_spans.MonthSpan.{MonthSpan}
use Rattle.reckoning.specs.MonthSpans.{month_span}
use Rattle.reckoning.specs.Scope.{InScope}
use Rattle.reckoning.specs.WordBounds.{SpanFits, InRegister, YearInRegister}
use Rattle.reckoning.specs.ComputedRefusals.{outside, year_refusal, month_wrong, leap_wrong}
use Rattle.reckoning.proofs.RefusalCases.{inside_of}
use Rattle.reckoning.specs.Requests.{answer_unless, month_at, no_month_telling, no_month, month_in, month_silent, month_telling, month_of}
use Rattle.reckoning.specs.RefusalNumbers.{YEAR, MONTH, LEAP, number_or_0}
use Rattle.reckoning.specs.Told.{told_month}
use Rattle.reckoning.proofs.AnswerUnless.{refused_year, answered_year, by_answer}
use Rattle.reckoning.proofs.MonthSpanLaws.{span_fits}

module _ (c : Constants) (n number leap told : ℕ) where
  pub number_wrong : outside 1 12 number ≡ true → no_month MONTH ≡ month_in c n number leap told
  unfolding month_in
  number_wrong e = simp e

  pub mark_wrong : outside 1 12 number ≡ false → outside 0 1 leap ≡ true → no_month MONTH ≡ month_in c n number leap told
  unfolding month_in
  mark_wrong e f = simp (e, f)

  pub ordinary_month : outside 1 12 number ≡ false → leap ≡ 0
      → month_at c (month_of_qi c (qi_of_number n number)) ≡ month_in c n number leap told
  unfolding month_in
  ordinary_month e z =
      let same : month_of_qi c (qi_of_number n number) ≡ month_of_qi c (qi_of_number n number) + 0 = omega arith in
      subst (λ l. month_at c (month_of_qi c (qi_of_number n number)) ≡ month_in c n number l told) (sym z)
      (ap (month_at c) same ∙ simp e)

  pub leap_month : outside 1 12 number ≡ false → outside 0 1 leap ≡ false → (leap ≡ 0 → ⊥) → leap_follows c n number ≡ true
      → month_at c (month_of_qi c (qi_of_number n number) + 1) ≡ month_in c n number leap told
  unfolding month_in
  leap_month e f z l =
      let one : 1 ≡ leap = omega (arith, inside_of 0 1 leap f) in
      subst (λ x. month_at c (month_of_qi c (qi_of_number n number) + 1) ≡ month_in c n number x told) one (simp (e, l))

  pub leap_lacks : outside 1 12 number ≡ false → outside 0 1 leap ≡ false → (leap ≡ 0 → ⊥)
      → leap_follows c n number ≡ false
      → no_month_telling LEAP told ≡ month_in c n number leap told
  unfolding month_in
  leap_lacks e f z l =
      let one : 1 ≡ leap = omega (arith, inside_of 0 1 leap f) in
      subst (λ x. no_month_telling LEAP told ≡ month_in c n number x told) one (simp (e, l))

  -- What LEAP tells stands in the answer that carries it, and changes no other.
  pub telling : (month_in c n number leap 0).refusal ≡ LEAP → no_month_telling LEAP told ≡ month_in c n number leap told
  unfolding month_in
  telling is =
      by_bool (month_wrong number leap)
      (λ e. absurd (omega (arith, simp e at is)))
      (λ e. by_bool (leap_wrong c n number leap) (λ f. simp (e, f)) (λ f. absurd (omega (arith, simp (e, f) at is))))

  pub telling_nothing : ((month_in c n number leap 0).refusal ≡ LEAP → ⊥) → month_in c n number leap 0 ≡ month_in c n number leap told
  unfolding month_in
  telling_nothing other =
      by_bool (month_wrong number leap)
      (λ e. simp e)
      (λ e. by_bool (leap_wrong c n number leap) (λ f. absurd (other (simp (e, f)))) (λ f. simp (e, f)))

-- What is told of a leap month that a year does not have.
pub told_leap : {r : Result Month Refusal} {leap : Option ℕ} {told : ℕ} → r ≡ Err (NotLeap leap) → number_or_0 leap ≡ told
    → told_month r ≡ no_month_telling LEAP told
told_leap is e = ap told_month is ∙ ap (no_month_telling LEAP) e

-- The whole request, from the month found and what is told.
module _ (system year number leap : ℕ) {m : MonthAnswer}
    (is : m ≡ answer_unless (year_refusal system year) system year (month_silent number leap) no_month)
  where
    abbrev c : Constants
    c = constants_of system

    abbrev n : ℕ
    n = years_elapsed c year

    answered : InScope system year → month_telling number leap c n ≡ month_of system year number leap
    unfolding month_of
    answered s = answered_year (month_telling number leap) no_month system year s

    by_found : {P : Type 0}
        → ((refusal : ℕ) → year_refusal system year ≡ refusal → Inside 1 YEAR refusal → m.refusal ≡ refusal → m ≡ no_month refusal → P)
        → (InScope system year → m ≡ month_in c n number leap 0 → P)
        → P
    by_found = by_answer (λ x. x.refusal) no_month (λ refusal. refl) (month_silent number leap) system year is

    -- LEAP is refused in scope only
    pub silent_in_scope : m.refusal ≡ LEAP → InScope system year
    silent_in_scope l = by_found (λ refusal e i here blank. absurd (omega (arith, i))) (λ s found. s)

    pub leap_told : {told : ℕ} → m.refusal ≡ LEAP → told ≡ leap_number c n
        → no_month_telling LEAP told ≡ month_of system year number leap
    leap_told l t =
        by_found (λ refusal e i here blank. absurd (omega (arith, i)))
        (λ s found.
        ap (no_month_telling LEAP) t
        ∙ telling c n number leap (leap_number c n) (sym (ap (λ x. x.refusal) found) ∙ l)
        ∙ answered s)

    pub month_of_found : (m.refusal ≡ LEAP → ⊥) → m ≡ month_of system year number leap
    unfolding month_of
    month_of_found l =
        by_found
        (λ refusal e i here blank.
        blank ∙ sym (refused_year (month_telling number leap) no_month system year refusal e i.at_least))
        (λ s found.
        found ∙ telling_nothing c n number leap (leap_number c n) (λ e. l (ap (λ x. x.refusal) found ∙ e)) ∙ answered s)

-- Months of a year within the register, and whether a leap month follows one of them.
module _ {c : Constants} {n : ℕ} (r : YearInRegister c n) (number : ℕ) {m : MonthSpan}
    (month : m ≡ month_span c (month_of_qi c (qi_of_number n number)))
  where
    abbrev K : Calendar
    K = reckoned c r.constants_fit.consistent

    abbrev k : ℕ
    k = month_of_qi c (qi_of_number n number)

    within : Within K n k
    within = within_of_qi K n ((number + 1) % 12) (omega arith)

    pub ordinary_fits : SpanFits c m
    ordinary_fits = span_fits k r.constants_fit month (omega (arith, within, r.months))

    pub ordinary_in_register : InRegister c m.head
    ordinary_in_register =
        subst (λ x. InRegister c x.head) (sym month)
        (r.head k within.0 (omega (arith, within)))

    module _ {next : MonthSpan} (after : next ≡ month_span c (m.month + 1)) where
      -- the month after it, and the day of the middle qi after its own
      next_is : next ≡ month_span c (k + 1)
      next_is = after ∙ ap (λ x. month_span c (x.month + 1)) month

      end_is : next.next ≡ month_head c (k + 1 + 1)
      end_is = ap (λ x. x.next) next_is

      pub next_fits : SpanFits c next
      next_fits =
          span_fits (k + 1) r.constants_fit next_is (omega (arith, within, r.months))

      pub next_in_register : InRegister c next.head
      next_in_register =
          subst (λ x. InRegister c x.head) (sym next_is)
          (r.head (k + 1) (omega (arith, within)) (omega (arith, within)))

      module _ {day : ℕ} (qi : day ≡ day_of_qi c (qi_of_number n number + 1)) where
        pub none_follows : day < next.next → leap_follows c n number ≡ false
        none_follows h =
            le-ltb (k + 1) (month_of_qi c (qi_of_number n number + 1))
            (omega (
              arith,
              month_before c r.constants_fit.consistent (k + 1 + 1)
                  (day_of_qi c (qi_of_number n number + 1))
                  (omega (arith, end_is)),
            ))

        pub one_follows : next.next ≤ day → leap_follows c n number ≡ true
        one_follows h =
            lt-ltb (k + 1) (month_of_qi c (qi_of_number n number + 1))
            (omega (
              arith,
              month_from c r.constants_fit.consistent (k + 1 + 1)
                  (day_of_qi c (qi_of_number n number + 1))
                  (omega (arith, end_is)),
            ))
