-- Place by place, the values of two years say of their months what the reckoning says.
use Prim.Native.Nat.{ℕ, ◌+◌, ◌-◌, ◌^◌, ◌≤◌, ◌<◌}
use mathlib.Core.Path.{◌≡◌, sym, subst, ap, ◌∙◌}
use mathlib.Core.Logic.{⊎_elim}
use mathlib.Core.Bool.{true, false, true≢false, not}
use native.Mathlib.Omega.{arith}
use lib.IntN.{pos, ◌-ℤ◌, +ℤ_comm, -ℤ-+ℤ_cancel}
use borrow.Author.Tests.{not-true}
use Rattle.calendar.specs.declared.data.Constants.{Constants}
use Rattle.calendar.specs.Systems.{constants_of, years_elapsed}
use Rattle.calendar.specs.ClosedForms.{month_number, leap_mark}
use Rattle.calendar.specs.Month.{month_head, Bears, Marked}
use Rattle.calendar.specs.Year.{Span, month_count}
use Rattle.calendar.proofs.Cases.{by_bool}
use Rattle.calendar.proofs.EachSystem.{consistent}
use Rattle.calendar.proofs.Numbers.{number_unique, mark_unique}
use Rattle.calendar.proofs.Rising.{by_order}
use Rattle.calendar.proofs.Spans.{span_first, span_next}
use Rattle.reckoning.specs.Answers.{YearAnswer}
use Rattle.reckoning.specs.Requests.{year_of}
use Rattle.reckoning.specs.Scope.{InScope}
use Rattle.reckoning.specs.YearValue.{head_in, number_in, leap_in, ListsMonths}
use Rattle.reckoning.proofs.ScopeInRegister.{year_in_register}
use Rattle.reckoning.proofs.MonthsRight.{year_holds, year_tiled}
use Rattle.comparison.specs.Comparisons.{same_month, is_listed, difference_at}
use Rattle.comparison.proofs.PlaceCases.{by_months, listed_both, listed_first, listed_second, listed_none}
use Rattle.comparison.proofs.PlaceCases.{days_between, first_lacks, second_lacks, all_same, some_differs}
use Rattle.comparison.specs.WhereSystemsDiffer.{MonthAt, NoMonthAt, Unlike, SystemsDiffer, Says}

-- One year: its value has just the months that the reckoning has.
module _ (system year : ℕ) (s : InScope system year) where
  abbrev c : Constants
  c = constants_of system

  abbrev months : YearAnswer
  months = year_of system year

  pub lists : ListsMonths c (years_elapsed c year) months
  lists = year_holds system year s

  pub thirteen_most : months.count ≤ 13
  thirteen_most = ⊎_elim (λ e. omega arith) (λ e. omega arith) (year_tiled system year s).months

  abbrev pub month_at_lem : (i : ℕ) → i < months.count → MonthAt system year (i + 1)
  month_at_lem i h =
      let first = lists.span.first in
      let e : first + i ≡ first + (i + 1) - 1 = omega arith in
      record {
        span = lists.span;
        from_first = omega arith;
        to_last = omega (arith, lists.count);
        number = number_in months i;
        leap = leap_in months i;
        head = head_in months i;
        bears = subst (λ k. Bears c k (number_in months i)) e (lists.number i h);
        marked = subst (λ k. Marked c k (leap_in months i)) e (lists.leap i h);
        head_is = omega (arith, lists.head i h, ap (month_head c) e);
      }

  pub record Agrees (place : ℕ) (m : MonthAt system year place) : Type 0 where
    pub within : place - 1 < months.count
    pub number_is : m.number ≡ number_in months (place - 1)
    pub leap_is : m.leap ≡ leap_in months (place - 1)
    pub head_is : m.head ≡ head_in months (place - 1)

  pub agrees : (place : ℕ) (m : MonthAt system year place) → Agrees place m
  agrees place m =
      let ok = consistent system in
      let first = span_first c ok m.span ∙ sym (span_first c ok lists.span) in
      let next = span_next c ok m.span ∙ sym (span_next c ok lists.span) in
      let k : m.span.first + place - 1 ≡ lists.span.first + (place - 1) = omega (arith, m.from_first) in
      let within : place - 1 < months.count = omega (arith, m.from_first, m.to_last, lists.count) in
      record {
        within = within;
        number_is =
            number_unique c ok m.bears
            ∙ ap (month_number c) k
            ∙ sym (number_unique c ok (lists.number (place - 1) within));
        leap_is =
            mark_unique c ok m.marked
            ∙ ap (leap_mark c) k
            ∙ sym (mark_unique c ok (lists.leap (place - 1) within));
        head_is = omega (arith, m.head_is, lists.head (place - 1) within, ap (month_head c) k);
      }

  pub one_head : (place : ℕ) (m n : MonthAt system year place) → m.head ≡ n.head
  one_head place m n = (agrees place m).head_is ∙ sym (agrees place n).head_is

  -- a head is of 31 bits
  pub head_small : (place : ℕ) (m : MonthAt system year place) → m.head < 2 ^ 31
  head_small place m =
      let at = agrees place m in
      let first = span_first c (consistent system) lists.span in
      let next = span_next c (consistent system) lists.span in
      let k = lists.span.first + (place - 1) in
      let r = (year_in_register system year s.year_inside).head k (omega arith) (omega (arith, at.within, lists.count)) in
      omega (arith, at.head_is, lists.head (place - 1) at.within)

  pub no_month_at : (i : ℕ) → months.count ≤ i → NoMonthAt system year (i + 1)
  no_month_at i h m = omega (arith, (agrees (i + 1) m).within)

  pub past_the_last : (place : ℕ) → 1 ≤ place → NoMonthAt system year place → months.count ≤ place - 1
  past_the_last place from none =
      by_order (place - 1) months.count
      (λ h. let e : place - 1 + 1 ≡ place = omega arith in absurd (none (subst (MonthAt system year) e (month_at_lem (place - 1) h))))
      (λ h. h)

  -- Its months are all there, and no other, whichever way the year is bounded.
  module _ (y : Span c (years_elapsed c year)) where
    counted : month_count y ≡ months.count
    counted =
        let ok = consistent system in
        let first = span_first c ok y ∙ sym (span_first c ok lists.span) in
        let next = span_next c ok y ∙ sym (span_next c ok lists.span) in
        omega (arith, lists.count)

    pub has_its_months : (place : ℕ) → 1 ≤ place → place ≤ month_count y → MonthAt system year place
    has_its_months place from to =
        let e : place - 1 + 1 ≡ place = omega arith in
        subst (MonthAt system year) e (month_at_lem (place - 1) (omega (arith, counted)))

    pub has_no_other : (place : ℕ) → month_count y < place → NoMonthAt system year place
    has_no_other place past m = omega (arith, counted, (agrees place m).within, m.from_first)

-- The two systems.
module _ (first second year : ℕ) (s : InScope first year) (t : InScope second year) where
  abbrev a : YearAnswer
  a = year_of first year

  abbrev b : YearAnswer
  b = year_of second year

  -- A place listed is one where they differ,
  pub differ_if_listed : (i : ℕ) → is_listed a b i ≡ true → SystemsDiffer first second year (i + 1)
  differ_if_listed i e =
      by_months a b i
      (λ p q.
      SystemsDiffer.months_unlike (month_at_lem first year s i p) (month_at_lem second year t i q)
      (some_differs a b i (not-true (same_month a b i) (sym (listed_both a b i p q) ∙ e))))
      (λ p q. SystemsDiffer.first_alone (month_at_lem first year s i p) (no_month_at second year t i q))
      (λ p q. SystemsDiffer.second_alone (no_month_at first year s i p) (month_at_lem second year t i q))
      (λ p q. absurd (true≢false (sym e ∙ listed_none a b i p q)))

  -- and the answer says how.
  pub says_how : (i : ℕ) → is_listed a b i ≡ true → Says first second year (i + 1) (difference_at a b i)
  says_how i e =
      by_months a b i
      (λ p q.
      subst (Says first second year (i + 1)) (sym (days_between a b i p q))
      (record {
        of_first = month_at_lem first year s i p;
        of_second = month_at_lem second year t i q;
        apart = sym (-ℤ-+ℤ_cancel (pos (head_in b i)) (pos (head_in a i))) ∙ +ℤ_comm (pos (head_in b i) -ℤ pos (head_in a i)) (pos (head_in a i));
      }))
      (λ p q.
      subst (Says first second year (i + 1)) (sym (second_lacks a b i p q))
      (month_at_lem first year s i p, no_month_at second year t i q))
      (λ p q.
      subst (Says first second year (i + 1)) (sym (first_lacks a b i p))
      (no_month_at first year s i p, month_at_lem second year t i q))
      (λ p q. absurd (true≢false (sym e ∙ listed_none a b i p q)))

  unlike_unsame : (place : ℕ) (m : MonthAt first year place) (n : MonthAt second year place) → Unlike m n
      → same_month a b (place - 1) ≡ false
  unlike_unsame place m n unlike =
      let x = agrees first year s place m in
      let y = agrees second year t place n in
      by_bool (same_month a b (place - 1))
      (λ e.
      let same = all_same a b (place - 1) e in
      absurd
      (⊎_elim
      (λ d. d (x.number_is ∙ same.0 ∙ sym y.number_is))
      (λ r.
      ⊎_elim
      (λ d. d (x.leap_is ∙ same.1 ∙ sym y.leap_is))
      (λ d. d (x.head_is ∙ same.2 ∙ sym y.head_is))
      r)
      unlike))
      (λ e. e)

  -- Where they differ, the place is listed.
  pub record ToBeListed (place : ℕ) : Type 0 where
    pub from_first : 1 ≤ place
    pub to_thirteenth : place ≤ 13
    pub listed : is_listed a b (place - 1) ≡ true

  pub listed_if_differ : (place : ℕ) → SystemsDiffer first second year place → ToBeListed place
  listed_if_differ place (SystemsDiffer.months_unlike m n unlike) =
      let x = (agrees first year s place m).within in
      let y = (agrees second year t place n).within in
      record {
        from_first = m.from_first;
        to_thirteenth = omega (arith, thirteen_most first year s);
        listed = listed_both a b (place - 1) x y ∙ ap not (unlike_unsame place m n unlike);
      }
  listed_if_differ place (SystemsDiffer.first_alone m none) =
      let x = (agrees first year s place m).within in
      record {
        from_first = m.from_first;
        to_thirteenth = omega (arith, thirteen_most first year s);
        listed = listed_first a b (place - 1) x (past_the_last second year t place m.from_first none);
      }
  listed_if_differ place (SystemsDiffer.second_alone none n) =
      let y = (agrees second year t place n).within in
      record {
        from_first = n.from_first;
        to_thirteenth = omega (arith, thirteen_most second year t);
        listed = listed_second a b (place - 1) (past_the_last first year s place n.from_first none) y;
      }
