-- New moons with their remainders, and the middle qi that months hold, by index: paper 02, Q-9.
use Prim.Native.Nat.{ℕ, zero, suc, ◌+◌, ◌*◌, ◌≤◌, ◌<◌}
use mathlib.Core.Path.{◌≡◌, refl, subst, sym, ap, ap₂, ◌∙◌}
use mathlib.Core.Logic.{inl, inr, ⊎_elim, ◌↔◌}
use mathlib.Core.List.{List, [], ◌∷◌, ◌++◌, append-nil}
use native.Mathlib.Nat.{div-add-mod', mod-lt}
use native.Mathlib.Omega.{arith}
use borrow.Author.Tests.{eq-eqb, ne_eqb}
use Rattle.calendar.specs.declared.data.Constants.{Constants}
use Rattle.calendar.specs.ExactlyOne.{ExactlyOne}
use Rattle.calendar.specs.Month.{new_moon, new_moon_remainder, month_head, Holds, HoldsSome, Lacks, number_of, Bears, Marked}
use Rattle.calendar.specs.Month.{none_held, HeldTold, indexes_told}
use Rattle.calendar.specs.Year.{Span, month_count, InYear}
use Rattle.calendar.specs.Consistent.{Consistent}
use Rattle.calendar.specs.Calendar.{Calendar}
use Rattle.calendar.specs.ClosedForms.{month_of_qi, leap_mark, held_index}
use Rattle.calendar.proofs.Rising.{by_order, rises_strictly, below_back}
use Rattle.calendar.proofs.EveryCalendar.{count_least, held, qi_of_held, within_of_qi}
use Rattle.calendar.proofs.Reckoned.{reckoned}
use Rattle.calendar.proofs.Spans.{span_first, span_next, in_year}
use Rattle.calendar.proofs.Numbers.{month_of_held, holds_of_month, holds_of_held, number_of_held, number_unique, mark_unique, marked}
use Rattle.calendar.proofs.Laws.{qi_of_its_year}

-- The first n numbers.
up_to : ℕ → List ℕ
up_to zero = []
up_to (suc n) = up_to n ++ (n ∷ [])

module _ (c : Constants) (ok : Consistent c) where
  abbrev K : Calendar
  K = reckoned c ok

  -- A new moon is its day and its remainder, which is less than a day.
  pub moon_told : (k : ℕ) → month_head c k * c.lunar + new_moon_remainder c k ≡ new_moon c k
  moon_told k = div-add-mod' (new_moon c k) c.lunar

  pub remainder_below : (k : ℕ) → new_moon_remainder c k < c.lunar
  remainder_below k = mod-lt (new_moon c k) ok.lunar_some

  none_is : (k : ℕ) → Lacks c k → held_index c k ≡ none_held
  none_is k l =
      let leap : 1 ≡ leap_mark c k = mark_unique c ok (inr (refl, l)) in
      simp (ne_eqb (leap_mark c k) 0 (λ e. omega arith))

  -- Month k, of which year n's middle qi are told.
  module _ (n k : ℕ) where
    abbrev holds_some : (j : ℕ) → j < 12 → Holds c k n j → HoldsSome c k
    holds_some j l h = record { year = n; index = j; is_middle = l; holds = h }

    -- What is told is the closed form's,
    index_is : (j : ℕ) → j < 12 → Holds c k n j → held_index c k ≡ j
    index_is j l h =
        let ordinary : 0 ≡ leap_mark c k = mark_unique c ok (inl (refl, holds_some j l h)) in
        let last = qi_of_held K (12 * n + j) k (month_of_held c ok k n j h) in
        simp (eq-eqb (leap_mark c k) 0 (sym ordinary)) (omega arith)

    pub held_told : InYear c n k → HeldTold c k n (held_index c k)
    held_told i =
        ⊎_elim
        (λ p.
        let h = p.1 in
        let here : Holds c k n h.index = subst (λ m. Holds c k m h.index) (qi_of_its_year c ok n k i h) h.holds in
        subst (HeldTold c k n) (sym (index_is h.index h.is_middle here)) (inl (h.is_middle, here)))
        (λ p. inr (none_is k p.1, p.1))
        (marked c ok k)

    -- and no other.
    module _ {told : ℕ} (t : HeldTold c k n told) where
      pub told_unique : told ≡ held_index c k
      told_unique = ⊎_elim (λ p. sym (index_is told p.0 p.1)) (λ p. p.0 ∙ sym (none_is k p.1)) t

      -- Leap exactly when none is held.
      pub leap_just_when_none : {mark : ℕ} → Marked c k mark → (mark ≡ 1) ↔ (told ≡ none_held)
      leap_just_when_none m = (
        λ e.
            ⊎_elim
            (λ p. absurd (⊎_elim (λ q. omega (arith, q.0)) (λ q. q.1 (holds_some told p.0 p.1)) m))
            (λ p. p.0)
            t,
        λ e. ⊎_elim (λ p. absurd (omega (arith, p.0))) (λ p. ⊎_elim (λ q. absurd (p.1 q.1)) (λ q. q.0) m) t,
      )

      -- A month that holds one has an index, and the index's number.
      pub number_by_index : {number : ℕ} → Bears c k number → HoldsSome c k → (told < 12) × (number ≡ number_of told)
      number_by_index b h =
          ⊎_elim
          (λ p. (p.0, number_unique c ok b ∙ sym (number_of_held c ok (holds_some told p.0 p.1))))
          (λ p. absurd (p.1 h))
          t

  -- Each index is held by one month of the year, and later months hold later ones.
  pub each_index_held : (n j : ℕ) → j < 12 → ExactlyOne (λ k. InYear c n k × Holds c k n j)
  each_index_held n j l =
      let k = month_of_qi c (12 * n + j) in
      record {
        it = k;
        has = (in_year c ok n k (within_of_qi K n j l), holds_of_month c ok k n j refl);
        only = λ m p. sym (month_of_held c ok m n j p.1);
      }

  pub indexes_rise : (n k l i j : ℕ) → Holds c k n i → Holds c l n j → k < l → i < j
  indexes_rise n k l i j p q before =
      omega (
        arith,
        below_back (month_of_qi c) K.qi_rises (12 * n + i) (12 * n + j)
            (omega (arith, month_of_held c ok k n i p, month_of_held c ok l n j q)),
      )

  -- So over the months of a year what is told rises from 0 to 11 without a gap.
  module _ {n : ℕ} (y : Span c n) (told : ℕ → ℕ) (is : (i : ℕ) → i < month_count y → HeldTold c (y.first + i) n (told i)) where
    abbrev month : ℕ → ℕ
    month j = month_of_qi c (12 * n + j)

    -- The first i months hold the indexes below `next`, whose month comes after them.
    record HeldSoFar (i : ℕ) : Type 0 where
      next : ℕ
      indexes : indexes_told told i ≡ up_to next
      after : y.first + i ≤ month next
      before : (j : ℕ) → j < next → month j < y.first + i

    held_none : HeldSoFar 0
    unfolding up_to indexes_told
    held_none =
        let e : 12 * n + 0 ≡ 12 * n = omega arith in
        record {
          next = 0;
          indexes = refl;
          after = omega (arith, span_first c ok y, ap (month_of_qi c) e);
          before = λ j l. absurd (omega arith);
        }

    -- A month that holds an index holds the next one;
    held_is_next : {i : ℕ} (p : HeldSoFar i) → Holds c (y.first + i) n (told i) → told i ≡ p.next
    held_is_next {i} p h =
        let here : month (told i) ≡ y.first + i = month_of_held c ok (y.first + i) n (told i) h in
        by_order (told i) p.next
        (λ l. absurd (omega (arith, p.before (told i) l)))
        (λ l.
        by_order p.next (told i)
        (λ m.
        let rises : month p.next < month (told i) = rises_strictly (month_of_qi c) K.qi_rises (omega arith) in
        absurd (omega (arith, p.after)))
        (λ m. omega arith))

    one_more : {i : ℕ} (p : HeldSoFar i) → told i < 12 → Holds c (y.first + i) n (told i) → HeldSoFar (suc i)
    unfolding up_to indexes_told
    one_more {i} p l h =
        let same = held_is_next p h in
        let here : month p.next ≡ y.first + i = ap month (sym same) ∙ month_of_held c ok (y.first + i) n (told i) h in
        let e : 12 * n + p.next + 1 ≡ 12 * n + suc p.next = omega arith in
        record {
          next = suc p.next;
          indexes = simp (ne_eqb (told i) none_held (λ z. omega arith)) (ap₂ (λ xs x. xs ++ (x ∷ [])) p.indexes same);
          after = omega (arith, K.qi_rises (12 * n + p.next), ap (month_of_qi c) e);
          before = λ j m.
              by_order j p.next
              (λ b. omega (arith, p.before j b))
              (λ b. let last : j ≡ p.next = omega arith in omega (arith, ap month last));
        }

    -- one that holds none is passed over.
    passed_over : {i : ℕ} (p : HeldSoFar i) → told i ≡ none_held → Lacks c (y.first + i) → HeldSoFar (suc i)
    unfolding indexes_told
    passed_over {i} p none lacks =
        let not_here : month p.next ≡ y.first + i → ⊥ =
        λ e. lacks (holds_of_held c ok (y.first + i) (held K (12 * n + p.next) (y.first + i) e))
        in
        record {
          next = p.next;
          indexes = simp (eq-eqb (told i) none_held none, append-nil) p.indexes;
          after = by_order (y.first + i) (month p.next) (λ l. omega arith) (λ l. absurd (not_here (omega (arith, p.after))));
          before = λ j l. omega (arith, p.before j l);
        }

    held_so_far : (i : ℕ) → i ≤ month_count y → HeldSoFar i
    held_so_far zero l = held_none
    held_so_far (suc i) l =
        let p = held_so_far i (omega arith) in
        ⊎_elim (λ h. one_more p h.0 h.1) (λ h. passed_over p h.0 h.1) (is i (omega arith))

    pub indexes_all_told : indexes_told told (month_count y) ≡ 0 ∷ 1 ∷ 2 ∷ 3 ∷ 4 ∷ 5 ∷ 6 ∷ 7 ∷ 8 ∷ 9 ∷ 10 ∷ 11 ∷ []
    unfolding up_to
    indexes_all_told =
        let p = held_so_far (month_count y) (omega arith) in
        let e : 12 * (n + 1) ≡ 12 * n + 12 = omega arith in
        let end : y.first + month_count y ≡ month 12 =
        omega (arith, span_first c ok y, span_next c ok y, count_least K n, ap (month_of_qi c) e)
        in
        let twelve : p.next ≡ 12 =
        by_order p.next 12
        (λ l.
        let rises : month p.next < month 12 = rises_strictly (month_of_qi c) K.qi_rises (omega arith) in
        absurd (omega (arith, p.after)))
        (λ l. by_order 12 p.next (λ m. absurd (omega (arith, p.before 12 m))) (λ m. omega arith))
        in
        p.indexes ∙ ap up_to twelve
