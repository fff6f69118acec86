-- The leap month of a year: its number, and how it is found.
use Prim.Native.Nat.{ℕ, zero, suc, ◌+◌, ◌*◌, ◌%◌, ◌≤◌, ◌<◌}
use mathlib.Core.Path.{◌≡◌, refl, subst, sym, ap, ◌∙◌}
use mathlib.Core.Bool.{true, true≢false}
use mathlib.Core.Logic.{◌⊎◌, inl, inr, ⊎_elim, ◌↔◌}
use native.Mathlib.Omega.{arith}
use borrow.Author.Tests.{lt-ltb, ltb-true, ltb-false}
use Rattle.calendar.specs.declared.data.Constants.{Constants}
use Rattle.calendar.specs.Inside.{Inside}
use Rattle.calendar.specs.Month.{Lacks, number_of}
use Rattle.calendar.specs.Year.{InYear, HasLeap, LeapNumber}
use Rattle.calendar.specs.Consistent.{Consistent}
use Rattle.calendar.specs.Calendar.{Calendar}
use Rattle.calendar.specs.ClosedForms.{month_of_qi, first_month, month_number, qi_of_number, month_cited, leap_follows}
use Rattle.calendar.specs.LeapMonth.{last_leap, leap_number, no_leap_up_to, LeapBetween}
use Rattle.calendar.proofs.Cases.{by_bool}
use Rattle.calendar.proofs.Rising.{by_order, even_rise}
use Rattle.calendar.proofs.Reckoned.{reckoned}
use Rattle.calendar.proofs.Spans.{span}
use Rattle.calendar.proofs.Numbers.{number_unique}
use Rattle.calendar.proofs.Laws.{year_months, twelve_none_lacks, thirteen_one_leap, leap_follows_lem, leap_cited, number_inside}

module _ (c : Constants) (ok : Consistent c) where
  abbrev K : Calendar
  K = reckoned c ok

  lacks : {n number : ℕ} → (h : HasLeap c n number) → InYear c n h.month × Lacks c h.month
  lacks h = (h.is_leap.in_year, ⊎_elim (λ p. absurd (omega (arith, p.0))) (λ p. p.1) h.is_leap.marked)

  -- A year of twelve months has no leap month,
  none_of_twelve : (n number : ℕ) → first_month c (n + 1) ≡ first_month c n + 12 → HasLeap c n number → ⊥
  none_of_twelve n number e h =
      (lacks h).1 (twelve_none_lacks c ok (span c ok n) (omega arith) h.month (lacks h).0)

  -- and one of thirteen has one.
  leap_unique : (n a b : ℕ) → HasLeap c n a → HasLeap c n b → a ≡ b
  leap_unique n a b g h =
      ⊎_elim
      (λ twelve. absurd (none_of_twelve n a (omega arith) g))
      (λ thirteen.
      let one = thirteen_one_leap c ok (span c ok n) thirteen in
      let same = one.only g.month (lacks g) ∙ sym (one.only h.month (lacks h)) in
      number_unique c ok g.is_leap.bears ∙ ap (month_number c) same ∙ sym (number_unique c ok h.is_leap.bears))
      (year_months c ok (span c ok n))

  leap_inside : (n number : ℕ) → HasLeap c n number → Inside 1 12 number
  leap_inside n number h = number_inside c ok n number 1 h.month h.is_leap

  -- What is told is one number only, and 0 just when there is no leap month.
  pub leap_number_unique : (n a b : ℕ) → LeapNumber c n a → LeapNumber c n b → a ≡ b
  leap_number_unique n a b p q =
      ⊎_elim
      (λ g. ⊎_elim (λ h. leap_unique n a b g h) (λ h. absurd (h.1 a g)) q)
      (λ g. ⊎_elim (λ h. absurd (g.1 b h)) (λ h. g.0 ∙ sym h.0) q)
      p

  pub told_zero : (n told : ℕ) → LeapNumber c n told → (told ≡ 0) ↔ ((number : ℕ) → HasLeap c n number → ⊥)
  told_zero n told p = (
    λ e. ⊎_elim (λ h. absurd (omega (arith, leap_inside n told h))) (λ h. h.1) p,
    λ none. ⊎_elim (λ h. absurd (none told h)) (λ h. h.0) p,
  )

  -- The number found is that number.
  has_leap : (n number : ℕ) → Inside 1 12 number → leap_follows c n number ≡ true → HasLeap c n number
  has_leap n number i e = record { month = month_cited c n number 1; is_leap = leap_cited c ok n number i e }

  found_to : (n most : ℕ) → most ≤ 12
      → (HasLeap c n (last_leap c n most)) ⊎ ((last_leap c n most ≡ 0) × ((number : ℕ) → number ≤ most → HasLeap c n number → ⊥))
  unfolding last_leap
  found_to n zero l = inr (refl, λ number m h. omega (arith, leap_inside n number h))
  found_to n (suc most) l =
      by_bool (leap_follows c n (suc most))
      (λ e. inl (subst (HasLeap c n) (sym (simp e)) (has_leap n (suc most) (omega arith) e)))
      (λ e.
      let passed : last_leap c n (suc most) ≡ last_leap c n most = simp e in
      let not_here : HasLeap c n (suc most) → ⊥ =
      λ h. true≢false (sym (leap_follows_lem c ok n (suc most) h.month l h.is_leap) ∙ e)
      in
      ⊎_elim
      (λ h. inl (subst (HasLeap c n) (sym passed) h))
      (λ none.
      inr (
        passed ∙ none.0,
        λ number m h.
            by_order number (suc most)
            (λ below. none.1 number (omega arith) h)
            (λ above. let same : number ≡ suc most = omega arith in not_here (subst (HasLeap c n) same h)),
      ))
      (found_to n most (omega arith)))

  pub leap_number_lem : (n : ℕ) → LeapNumber c n (leap_number c n)
  leap_number_lem n =
      ⊎_elim
      inl
      (λ none. inr (none.0, λ number h. none.1 number (leap_inside n number h).at_most h))
      (found_to n 12 (omega arith))

  -- Where it lies among the middle qi: after the first;
  pub between_from_first : (n : ℕ) → LeapBetween c n 0 16
  between_from_first n =
      let e : 12 * n + 0 ≡ 12 * n = omega arith in
      record {
        below = omega arith;
        most = omega arith;
        none = lt-ltb (month_of_qi c (12 * n + 0)) (first_month c n + 0 + 1) (omega (arith, ap (month_of_qi c) e));
        some = λ l. absurd (omega arith);
      }

  -- where there is none up to some middle qi, each up to there is in the month of its place;
  none_leap : (n low i : ℕ) → no_leap_up_to c n low ≡ true → i ≤ low → month_of_qi c (12 * n + i) ≡ first_month c n + i
  none_leap n low i e l =
      even_rise (month_of_qi c) K.qi_rises low i (12 * n)
      (omega (arith, ltb-true (month_of_qi c (12 * n + low)) (first_month c n + low + 1) e))
      l

  -- so that the last such middle qi tells its number.
  pub number_before_leap : (n at : ℕ) → LeapBetween c n at (at + 1) → at < 12 → number_of (at % 12) ≡ leap_number c n
  number_before_leap n at s l =
      let number = number_of (at % 12) in
      let later = ltb-false (month_of_qi c (12 * n + (at + 1))) (first_month c n + (at + 1) + 1) (s.some (omega arith)) in
      let qi : qi_of_number n number ≡ 12 * n + at = omega arith in
      let next : qi_of_number n number + 1 ≡ 12 * n + (at + 1) = omega arith in
      let follows : leap_follows c n number ≡ true =
      lt-ltb (month_of_qi c (qi_of_number n number) + 1) (month_of_qi c (qi_of_number n number + 1))
      (omega (arith, ap (month_of_qi c) qi, ap (month_of_qi c) next, none_leap n at at s.none (omega arith)))
      in
      leap_number_unique n number (leap_number c n) (inl (has_leap n number (omega arith) follows)) (leap_number_lem n)

  pub number_past_year : (n at : ℕ) → LeapBetween c n at (at + 1) → 12 ≤ at → 0 ≡ leap_number c n
  number_past_year n at s l =
      let e : 12 * (n + 1) ≡ 12 * n + 12 = omega arith in
      let twelve : first_month c (n + 1) ≡ first_month c n + 12 = ap (month_of_qi c) e ∙ none_leap n at 12 s.none l in
      leap_number_unique n 0 (leap_number c n) (inr (refl, λ number h. none_of_twelve n number twelve h)) (leap_number_lem n)
