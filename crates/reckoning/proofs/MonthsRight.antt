-- The value that `year` returns holds the months of the reckoning; demand 3's part on months, said of that value.
use Prim.Native.Nat.{ℕ, ◌+◌, ◌-◌, ◌≤◌, ◌<◌}
use mathlib.Core.Path.{◌≡◌, refl, subst, sym, ap, ◌∙◌}
use mathlib.Core.Logic.{inl, inr, ⊎_elim}
use native.Mathlib.Omega.{arith}
use lib.ListN.{get_or-replicate}
use Rattle.calendar.specs.declared.data.Constants.{Constants}
use Rattle.calendar.specs.ExactlyOne.{ExactlyOne}
use Rattle.calendar.specs.Systems.{constants_of, years_elapsed, IsRegisterDay, register_day, count_day}
use Rattle.calendar.specs.Month.{month_head, InMonth, Lacks, Bears, Marked, none_held, HeldTold}
use Rattle.calendar.specs.Year.{InYear, DayOfYear}
use Rattle.calendar.specs.Consistent.{Consistent}
use Rattle.calendar.specs.ClosedForms.{first_month}
use Rattle.calendar.proofs.EachSystem.{consistent}
use Rattle.calendar.proofs.Rising.{by_order}
use Rattle.calendar.proofs.Reckoned.{reckoned}
use Rattle.calendar.proofs.EveryCalendar.{count_least}
use Rattle.calendar.proofs.Spans.{span, span_first, span_next}
use Rattle.calendar.proofs.Numbers.{bears_its_number, marked}
use Rattle.calendar.proofs.HeldQi.{held_told}
use Rattle.calendar.proofs.Laws.{month_days, year_months, months_cover, twelve_none_lacks, thirteen_one_leap}
use Rattle.reckoning.specs.Answers.{YearAnswer}
use Rattle.reckoning.specs.Scope.{InScope}
use Rattle.reckoning.specs.Asked.{asked_of}
use Rattle.reckoning.specs.WordBounds.{InRegister, YearInRegister}
use Rattle.reckoning.specs.ComputedRefusals.{year_refusal}
use Rattle.reckoning.specs.Requests.{as_register_day, head_at, number_at, leap_at, held_at, no_heads, no_numbers, no_qi}
use Rattle.reckoning.specs.Requests.{months_from, year_in, no_year, year_of}
use Rattle.reckoning.specs.YearValue.{head_in, remainder_in, held_in, ListsMonths, Tiled}
use Rattle.reckoning.proofs.FilledLaws.{filled_below, filled_past, filled_length, replicate_reads}
use Rattle.reckoning.proofs.RefusalCases.{accepted, in_scope}
use Rattle.reckoning.proofs.ScopeInRegister.{year_in_register}
use Rattle.reckoning.proofs.AnswerUnless.{answered}
use Rattle.reckoning.proofs.RefusedRequests.{year_blank}
use Rattle.reckoning.proofs.RegisterLaws.{months_in_register}

register_back : (c : Constants) (d : ℕ) → InRegister c d → IsRegisterDay c (register_day c d) d
register_back c d h = omega arith

-- Year n within the register.
module _ (c : Constants) (n : ℕ) (r : YearInRegister c n) where
  head_at_lem : (i : ℕ) → i ≤ first_month c (n + 1) - first_month c n
      → IsRegisterDay c (head_in (year_in c n) i) (month_head c (first_month c n + i))
  unfolding months_from
  head_at_lem i h =
      let f = first_month c n in
      let m = first_month c (n + 1) - f in
      let l = months_in_register c n r in
      let small = l.count_most in
      let e = filled_below (head_at c f) no_heads (as_register_day 0) (m + 1) i (omega arith) (omega arith) in
      ap (λ d. d.0 + c.anchor) e ∙ register_back c (month_head c (f + i)) (l.head i h)

  pub holds_year : ListsMonths c n (year_in c n)
  unfolding months_from
  holds_year =
      let ok = r.constants_fit.consistent in
      let f = first_month c n in
      let m = first_month c (n + 1) - f in
      let l = months_in_register c n r in
      let small = l.count_most in
      let e : f + m ≡ first_month c (n + 1) = omega (arith, count_least (reckoned c ok) n) in
      record {
        accepted = refl;
        places = (
          filled_length _ no_heads _,
          filled_length _ no_numbers _,
          filled_length _ no_numbers _,
          filled_length _ no_numbers _,
          filled_length _ no_qi _,
        );
        span = span c ok n;
        count = refl;
        head = λ i h. head_at_lem i (omega arith);
        next = subst (λ k. IsRegisterDay c (head_in (year_in c n) m) (month_head c k)) e (head_at_lem m (omega arith));
        number = λ i h.
            let e = filled_below (number_at c f) no_numbers 0 m i h (omega arith) in
            subst (Bears c (f + i)) (sym e) (bears_its_number c ok (f + i));
        leap = λ i h.
            let e = filled_below (leap_at c f) no_numbers 0 m i h (omega arith) in
            subst (Marked c (f + i)) (sym e) (marked c ok (f + i));
        remainder = λ i h. filled_below _ no_numbers 0 _ i (omega arith) (omega arith);
        held = λ i h.
            let told = filled_below (held_at c f) no_qi 0 m i h (omega arith) in
            let in_year : InYear c n (f + i) = record { span = span c ok n; from = omega arith; before = omega arith } in
            subst (λ x. HeldTold c (f + i) n x) (sym told) (held_told c ok n (f + i) in_year);
        unused_head = λ i h.
            let e = filled_past (head_at c f) no_heads (as_register_day 0) (m + 1) i (omega arith) in
            ap (λ d. d.0) (e ∙ replicate_reads (as_register_day 0) 14 i);
        unused_number = λ i h. filled_past (number_at c f) no_numbers 0 m i h ∙ replicate_reads 0 14 i;
        unused_leap = λ i h. filled_past (leap_at c f) no_numbers 0 m i h ∙ replicate_reads 0 14 i;
        unused_remainder = λ i h. filled_past _ no_numbers 0 _ i (omega arith) ∙ replicate_reads 0 14 i;
        unused_held = λ i h l. filled_past _ no_qi 0 _ i (omega arith) ∙ get_or-replicate 14 i none_held 0 l;
      }

-- A value that holds the months of a year is tiled by them.
module _ (c : Constants) (ok : Consistent c) (n : ℕ) (v : YearAnswer) (y : ListsMonths c n v) where
  last : y.span.first + v.count ≡ y.span.next
  last = omega (arith, y.count, span_first c ok y.span, span_next c ok y.span, count_least (reckoned c ok) n)

  pub head_upto : (i : ℕ) → i ≤ v.count → IsRegisterDay c (head_in v i) (month_head c (y.span.first + i))
  head_upto i h =
      by_order i v.count (y.head i)
      (λ l.
      let e : i ≡ v.count = omega arith in
      subst (λ x. IsRegisterDay c (head_in v x) (month_head c (y.span.first + x))) (sym e)
      (subst (λ k. IsRegisterDay c (head_in v v.count) (month_head c k)) (sym last) y.next))

  pub head_after : (i : ℕ) → i < v.count → IsRegisterDay c (head_in v (i + 1)) (month_head c (y.span.first + i + 1))
  head_after i h =
      let e : y.span.first + (i + 1) ≡ y.span.first + i + 1 = omega arith in
      subst (λ k. IsRegisterDay c (head_in v (i + 1)) (month_head c k)) e (head_upto (i + 1) (omega arith))

  place_in_year : (i : ℕ) → i < v.count → InYear c n (y.span.first + i)
  place_in_year i h = record { span = y.span; from = omega arith; before = omega (arith, last) }

  -- Where a month of the year stands in the value.
  placed : (k : ℕ) → InYear c n k → (k - y.span.first < v.count) × (y.span.first + (k - y.span.first) ≡ k)
  placed k in_year =
      let first = span_first c ok in_year.span ∙ sym (span_first c ok y.span) in
      let next = span_next c ok in_year.span ∙ sym (span_next c ok y.span) in
      omega (arith, last, in_year.from, in_year.before)

  day_in : (i r : ℕ) → i < v.count → head_in v i ≤ r → r < head_in v (i + 1) → InMonth c (y.span.first + i) (count_day c r)
  day_in i r h a b = (omega (arith, head_upto i (omega arith)), omega (arith, head_upto i (omega arith), head_after i h))

  tile : (r : ℕ) → head_in v 0 ≤ r → r < head_in v v.count
      → ExactlyOne (λ i. (i < v.count) × (head_in v i ≤ r) × (r < head_in v (i + 1)))
  tile r a b =
      let e : y.span.first + 0 ≡ y.span.first = omega arith in
      let is_day : IsRegisterDay c r (count_day c r) = omega (arith, head_upto 0 (omega arith)) in
      let day : DayOfYear c n (count_day c r) =
      record {
        span = y.span;
        from = omega (arith, head_upto 0 (omega arith), ap (month_head c) e);
        before = omega (arith, y.next);
      }
      in
      let one = months_cover c ok n (count_day c r) day in
      let at = placed one.it one.has.0 in
      let i = one.it - y.span.first in
      record {
        it = i;
        has = (
          at.0,
          omega (arith, one.has.1, head_upto i (omega arith), ap (month_head c) at.1),
          omega (arith, one.has.1, head_after i at.0, ap (λ k. month_head c (k + 1)) at.1),
        );
        only = λ j p. omega (arith, one.only (y.span.first + j) (place_in_year j p.0, day_in j r p.0 p.1 p.2));
      }

  pub tiled : Tiled v
  tiled =
      record {
        months = rw y.count (year_months c ok y.span);
        days = λ i h.
            ⊎_elim
            (λ e. inl (omega (arith, head_upto i (omega arith), head_after i h)))
            (λ e. inr (omega (arith, head_upto i (omega arith), head_after i h)))
            (month_days c ok (y.span.first + i));
        tile = tile;
        twelve = λ e i h.
            let none_lacks = twelve_none_lacks c ok y.span (sym y.count ∙ e) in
            ⊎_elim
            (λ p. p.0)
            (λ p. absurd (p.1 (none_lacks (y.span.first + i) (place_in_year i (omega arith)))))
            (y.leap i (omega arith));
        thirteen = λ e.
            let one = thirteen_one_leap c ok y.span (sym y.count ∙ e) in
            let at = placed one.it one.has.0 in
            let i = one.it - y.span.first in
            record {
              it = i;
              has = (
                omega (arith, at),
                ⊎_elim
                    (λ p. absurd (subst (λ k. Lacks c k) (sym at.1) one.has.1 p.1))
                    (λ p. p.0)
                    (y.leap i at.0),
              );
              only = λ j p.
                  ⊎_elim
                  (λ q. omega (arith, p.1, q.0))
                  (λ q. omega (arith, one.only (y.span.first + j) (place_in_year j (omega (arith, p.0)), q.1)))
                  (y.leap j (omega (arith, p.0)));
            };
      }

-- So in each system and every year in scope.
module _ (system year : ℕ) (s : InScope system year) where
  abbrev c : Constants
  c = constants_of system

  answer : year_in c (years_elapsed c year) ≡ year_of system year
  unfolding year_of
  answer = answered year_in no_year (asked_of (year_refusal system year) system year) _ refl (in_scope system year s)

  pub year_holds : ListsMonths c (years_elapsed c year) (year_of system year)
  year_holds = subst (ListsMonths c (years_elapsed c year)) answer (holds_year c (years_elapsed c year) (year_in_register system year s.year_inside))

  pub year_tiled : Tiled (year_of system year)
  year_tiled = tiled c (consistent system) (years_elapsed c year) (year_of system year) year_holds

-- The value carries the refusal of its request.
pub year_carries : (system year : ℕ) → (year_of system year).refusal ≡ year_refusal system year
year_carries system year =
    by_order 0 (year_refusal system year)
    (λ some. ap (λ v. v.refusal) (year_blank system year (λ z. omega arith)))
    (λ none.
    let zero_refusal : year_refusal system year ≡ 0 = omega arith in
    (year_holds system year (accepted system year zero_refusal)).accepted ∙ sym zero_refusal)

-- Whatever is asked, unused places have remainder 0 and the mark that none is held: all places of a refused answer, and
-- of any other those from the next year's head on.
pub unused_places : (system year i : ℕ) → (year_of system year).count ≤ i → i < 14
    → (remainder_in (year_of system year) i ≡ 0) × (held_in (year_of system year) i ≡ none_held)
unused_places system year i from below =
    by_order 0 (year_refusal system year)
    (λ some.
    let blank = year_blank system year (λ z. omega arith) in (
      ap (λ v. remainder_in v i) blank ∙ replicate_reads 0 14 i,
      ap (λ v. held_in v i) blank ∙ get_or-replicate 14 i none_held 0 below,
    ))
    (λ none.
    let lists = year_holds system year (accepted system year (omega arith)) in
    (lists.unused_remainder i from, lists.unused_held i from below))
