-- The laws of months and years, over any constants that meet the list and for every year; last, those that join the
-- closed forms to the worded rules.
use Prim.Native.Nat.{ℕ, zero, suc, ◌+◌, ◌*◌, ◌%◌, ◌≤◌, ◌<◌}
use mathlib.Core.Path.{◌≡◌, subst, subst₂, ap}
use mathlib.Core.Logic.{◌⊎◌, inl, inr, ⊎_elim}
use native.Mathlib.Omega.{arith}
use mathlib.Core.Bool.{true}
use borrow.Author.Tests.{lt-ltb, ltb-true}
use Rattle.calendar.specs.declared.data.Constants.{Constants}
use Rattle.calendar.specs.Inside.{Inside}
use Rattle.calendar.specs.ExactlyOne.{ExactlyOne}
use Rattle.calendar.specs.Month.{month_head, InMonth, month_length, Holds, HoldsSome, Lacks}
use Rattle.calendar.specs.Year.{Span, month_count, year_head, next_head, year_length, lengths_from, InYear, DayOfYear, MonthNumbered}
use Rattle.calendar.specs.Consistent.{Consistent}
use Rattle.calendar.specs.Calendar.{Calendar}
use Rattle.calendar.specs.ClosedForms.{month_of_qi, qi_of_month, month_of_day, year_of_month, month_number, leap_mark}
use Rattle.calendar.specs.ClosedForms.{qi_of_number, month_cited, leap_follows}
use Rattle.calendar.proofs.Rising.{by_order}
use Rattle.calendar.proofs.EveryCalendar.{behind_most, head_monotone, month_from, month_before, month_unique}
use Rattle.calendar.proofs.EveryCalendar.{qi_unique, qi_of_held, count_least, count_most, in_its_year, year_unique}
use Rattle.calendar.proofs.EveryCalendar.{month_again, twelve_hold, thirteen_one_lacks}
use Rattle.calendar.proofs.Reckoned.{reckoned}
use Rattle.calendar.proofs.Spans.{span_first, span_next, in_year, within}
use Rattle.calendar.proofs.Numbers.{month_of_held, held_of_holds, holds_of_held}
use Rattle.calendar.proofs.Numbers.{number_unique, bears_its_number, mark_unique, marked}

module _ (c : Constants) (ok : Consistent c) where
  abbrev K : Calendar
  K = reckoned c ok

  -- A month has 29 or 30 days.
  pub month_days : (k : ℕ) → (month_length c k ≡ 29) ⊎ (month_length c k ≡ 30)
  month_days k =
      by_order (month_length c k) 30
      (λ l. inl (omega (arith, K.month_least k)))
      (λ l. inr (omega (arith, K.month_most k)))

  -- A year has twelve or thirteen months.
  pub year_months : {n : ℕ} (y : Span c n) → (month_count y ≡ 12) ⊎ (month_count y ≡ 13)
  year_months {n} y =
      let a = span_first c ok y in
      let b = span_next c ok y in
      by_order (month_count y) 13 (λ l. inl (omega (arith, count_least K n))) (λ l. inr (omega (arith, count_most K n)))

  -- Of twelve months it has 354 or 355 days, of thirteen 383 or 384.
  pub days_of_twelve : {n : ℕ} (y : Span c n) → month_count y ≡ 12 → (year_length y ≡ 354) ⊎ (year_length y ≡ 355)
  days_of_twelve {n} y e =
      let f : y.first + 12 ≡ y.next = omega arith in
      let h = ap (month_head c) f in
      by_order (year_length y) 355
      (λ l. inl (omega (arith, K.twelve_least y.first)))
      (λ l. inr (omega (arith, K.twelve_most y.first)))

  pub days_of_thirteen : {n : ℕ} (y : Span c n) → month_count y ≡ 13 → (year_length y ≡ 383) ⊎ (year_length y ≡ 384)
  days_of_thirteen {n} y e =
      let f : y.first + 13 ≡ y.next = omega arith in
      let h = ap (month_head c) f in
      by_order (year_length y) 384
      (λ l. inl (omega (arith, K.thirteen_least y.first)))
      (λ l. inr (omega (arith, K.thirteen_most y.first)))

  pub year_length_most : {n : ℕ} (y : Span c n) → year_length y ≤ 384
  year_length_most y =
      ⊎_elim
      (λ twelve. ⊎_elim (λ e. omega arith) (λ e. omega arith) (days_of_twelve y twelve))
      (λ thirteen. ⊎_elim (λ e. omega arith) (λ e. omega arith) (days_of_thirteen y thirteen))
      (year_months y)

  -- The month lengths of a year sum to its own length.
  lengths_telescope : (count k : ℕ) → month_head c k + lengths_from c k count ≡ month_head c (k + count)
  unfolding lengths_from
  lengths_telescope zero k = let e : k ≡ k + 0 = omega arith in omega (arith, ap (month_head c) e)
  lengths_telescope (suc count) k =
      let e : k + 1 + count ≡ k + suc count = omega arith in
      omega (arith, ap (month_head c) e, lengths_telescope count (k + 1), K.month_least k)

  pub lengths_add_up : {n : ℕ} (y : Span c n) → lengths_from c y.first (month_count y) ≡ year_length y
  lengths_add_up {n} y =
      let a = span_first c ok y in
      let b = span_next c ok y in
      let e : y.first + month_count y ≡ y.next = omega (arith, count_least K n) in
      omega (arith, ap (month_head c) e, lengths_telescope (month_count y) y.first)

  -- Each month is in exactly one year.
  pub month_in_one_year : (k : ℕ) → ExactlyOne (λ n. InYear c n k)
  month_in_one_year k =
      record {
        it = year_of_month c k;
        has = in_year c ok (year_of_month c k) k (in_its_year K k);
        only = λ n i. year_unique K n k (within c ok n k i);
      }

  -- The months of a year tile its days: each day of the year is in exactly one of them,
  pub months_cover : (n d : ℕ) → DayOfYear c n d → ExactlyOne (λ k. InYear c n k × InMonth c k d)
  months_cover n d y =
      record {
        it = month_of_day c d;
        has = (
          record {
            span = y.span;
            from = month_from K y.span.first d y.from;
            before = month_before K y.span.next d y.before;
          },
          (K.day_from d, K.day_before d),
        );
        only = λ k p. month_unique K k d p.1.0 p.1.1;
      }

  -- and each day of theirs is a day of the year.
  pub months_stay_within : (n k d : ℕ) → InYear c n k → InMonth c k d → DayOfYear c n d
  months_stay_within n k d i p =
      let a : year_head i.span ≤ month_head c k = head_monotone K i.from in
      let b : month_head c (k + 1) ≤ next_head i.span = head_monotone K (omega (arith, i.before)) in
      record { span = i.span; from = omega arith; before = omega arith }

  -- Each day is in exactly one year.
  pub day_in_one_year : (d : ℕ) → ExactlyOne (λ n. DayOfYear c n d)
  unfolding months_cover
  day_in_one_year d =
      let year = month_in_one_year (month_of_day c d) in
      record {
        it = year.it;
        has = months_stay_within year.it (month_of_day c d) d year.has (K.day_from d, K.day_before d);
        only = λ n y. year.only n (months_cover n d y).has.0;
      }

  -- Of twelve months none lacks a middle qi,
  pub twelve_none_lacks : {n : ℕ} (y : Span c n) → month_count y ≡ 12 → (k : ℕ) → InYear c n k → HoldsSome c k
  twelve_none_lacks {n} y e k i =
      let a = span_first c ok y in
      let b = span_next c ok y in
      holds_of_held c ok k (twelve_hold K n (omega arith) k (within c ok n k i))

  -- and of thirteen exactly one does.
  pub thirteen_one_leap : {n : ℕ} (y : Span c n) → month_count y ≡ 13 → ExactlyOne (λ k. InYear c n k × Lacks c k)
  thirteen_one_leap {n} y e =
      let a = span_first c ok y in
      let b = span_next c ok y in
      let one = thirteen_one_lacks K n (omega arith) in
      record {
        it = one.it;
        has = (in_year c ok n one.it one.has.0, λ h. one.has.1 (held_of_holds c ok one.it h));
        only = λ k p. one.only k (within c ok n k p.0, λ h. p.1 (holds_of_held c ok k h));
      }

  -- No month holds two middle qi.
  pub holds_one : (k n j m i : ℕ) → j < 12 → i < 12 → Holds c k n j → Holds c k m i → (n ≡ m) × (j ≡ i)
  holds_one k n j m i a b p q =
      let x = qi_of_held K (12 * n + j) k (month_of_held c ok k n j p) in
      let y = qi_of_held K (12 * m + i) k (month_of_held c ok k m i q) in
      omega arith

  -- The middle qi that a month of a year holds is one of that year.
  pub qi_of_its_year : (n k : ℕ) → InYear c n k → (h : HoldsSome c k) → h.year ≡ n
  qi_of_its_year n k i h =
      omega (
        arith,
        h.is_middle,
        qi_of_held K (12 * h.year + h.index) k (month_of_held c ok k h.year h.index h.holds),
        year_unique K n k (within c ok n k i),
      )

  -- Each month of a year has its number and its leap mark,
  pub numbered : (n k : ℕ) → InYear c n k → MonthNumbered c n (month_number c k) (leap_mark c k) k
  numbered n k i = record { in_year = i; bears = bears_its_number c ok k; marked = marked c ok k }

  -- a number 1 to 12 and a mark 0 or 1,
  pub number_inside : (n number mark k : ℕ) → MonthNumbered c n number mark k → Inside 1 12 number
  number_inside n number mark k p =
      let e = number_unique c ok p.bears in record { at_least = omega arith; at_most = omega arith }

  pub mark_inside : (n number mark k : ℕ) → MonthNumbered c n number mark k → Inside 0 1 mark
  mark_inside n number mark k p =
      let e = mark_unique c ok p.marked in record { at_least = omega arith; at_most = omega (arith, behind_most K k) }

  -- which determine it within its year.
  pub numbered_unique : (n number mark k l : ℕ) → MonthNumbered c n number mark k → MonthNumbered c n number mark l → k ≡ l
  numbered_unique n number mark k l p q =
      let a = number_unique c ok p.bears in
      let b = number_unique c ok q.bears in
      let e : qi_of_month c k % 12 ≡ qi_of_month c l % 12 = omega arith in
      omega (
        arith,
        mark_unique c ok p.marked,
        mark_unique c ok q.marked,
        month_again K n k (within c ok n k p.in_year),
        month_again K n l (within c ok n l q.in_year),
        ap (λ j. month_of_qi c (12 * n + j)) e,
      )

  -- A month is named by a number and a mark just where the closed form says.
  pub cited_unique : (n number mark k : ℕ) → number ≤ 12 → MonthNumbered c n number mark k → k ≡ month_cited c n number mark
  cited_unique n number mark k b p =
      let w = within c ok n k p.in_year in
      let e : 12 * n + qi_of_month c k % 12 ≡ qi_of_number n number = omega (arith, number_unique c ok p.bears) in
      omega (arith, month_again K n k w, ap (month_of_qi c) e, mark_unique c ok p.marked)

  pub leap_follows_lem : (n number k : ℕ) → number ≤ 12 → MonthNumbered c n number 1 k → leap_follows c n number ≡ true
  leap_follows_lem n number k b p =
      let w = within c ok n k p.in_year in
      let e : qi_of_month c k ≡ qi_of_number n number = omega (arith, number_unique c ok p.bears, year_unique K n k w) in
      let f = ap (λ g. month_of_qi c (g + 1)) e in
      lt-ltb (month_of_qi c (qi_of_number n number) + 1) (month_of_qi c (qi_of_number n number + 1))
      (omega (arith, cited_unique n number 1 k b p, K.before_next_qi k))

  -- The month that the closed form names has the number and the mark.
  cited_here : (n number mark : ℕ) → Inside 1 12 number
      → qi_of_number n number ≡ qi_of_month c (month_cited c n number mark)
      → MonthNumbered c n number mark (month_cited c n number mark)
  cited_here n number mark h e =
      let k = month_cited c n number mark in
      let number_is : month_number c k ≡ number = omega (arith, h) in
      let mark_is : leap_mark c k ≡ mark = omega (arith, ap (month_of_qi c) e) in
      let year : year_of_month c k ≡ n = omega arith in
      subst₂ (λ x y. MonthNumbered c n x y k) number_is mark_is
      (numbered n k (subst (λ m. InYear c m k) year (in_year c ok (year_of_month c k) k (in_its_year K k))))

  -- Numbers 1 to 12 without the mark are all there; with the mark, where a leap month follows.
  pub ordinary_cited : (n number : ℕ) → Inside 1 12 number → MonthNumbered c n number 0 (month_cited c n number 0)
  ordinary_cited n number h =
      cited_here n number 0 h (qi_of_held K (qi_of_number n number) (month_cited c n number 0) (omega arith))

  pub leap_cited : (n number : ℕ) → Inside 1 12 number → leap_follows c n number ≡ true
      → MonthNumbered c n number 1 (month_cited c n number 1)
  leap_cited n number h f =
      cited_here n number 1 h
      (qi_unique K (qi_of_number n number) (month_cited c n number 1) (omega arith) (ltb-true _ _ f))

  pub numbers_all_there : (n number : ℕ) → Inside 1 12 number → ExactlyOne (λ k. MonthNumbered c n number 0 k)
  numbers_all_there n number h =
      let it = ordinary_cited n number h in
      record { it = month_cited c n number 0; has = it; only = λ l q. numbered_unique n number 0 l (month_cited c n number 0) q it }
