-- How a citation is judged, in the paper's words.
use Prim.Native.Nat.{ℕ, ◌+◌, ◌-◌, ◌<◌}
use mathlib.Core.Path.{◌≡◌, refl, subst, ap, sym, ◌∙◌}
use mathlib.Core.Logic.{◌⊎◌, inl, inr, ⊎_elim}
use mathlib.Core.List.{List}
use native.Mathlib.Omega.{arith}
use Rattle.calendar.specs.declared.data.Constants.{Constants}
use Rattle.calendar.specs.Inside.{Inside}
use Rattle.calendar.specs.Systems.{IsRegisterDay}
use Rattle.calendar.specs.SixtyDayName.{name_of}
use Rattle.calendar.specs.Month.{month_head, InMonth, month_length, day_of_month}
use Rattle.calendar.specs.Year.{Span, year_length, MonthNumbered}
use Rattle.calendar.proofs.EachSystem.{consistent}
use Rattle.calendar.proofs.Rising.{by_order}
use Rattle.calendar.proofs.Reckoned.{reckoned}
use Rattle.calendar.proofs.Spans.{span_first, span_next}
use Rattle.reckoning.specs.Answers.{MonthAnswer, OrdinalAnswer, DateAnswer}
use Rattle.reckoning.specs.Scope.{InScope, DayInScope}
use Rattle.reckoning.specs.Requests.{ordinal_day_of, month_of, date_of}
use Rattle.reckoning.specs.Outcomes.{MonthFound, MonthOutcome, OrdinalOutcome, DateFound, DateOutcome}
use Rattle.reckoning.proofs.RefusalCases.{by_inside}
use Rattle.reckoning.proofs.RequestsEnd.{ordinal_outcome, month_outcome, date_outcome}
use Rattle.reckoning.specs.RefusalNumbers.{SYSTEM, YEAR, MONTH, DAY, LEAP}
use Rattle.citation.specs.Answers.{JudgementAnswer}
use Rattle.citation.specs.Record.{kind_of, system_of, year_field, month_field, leap_field, day_field, name_field}
use Rattle.citation.specs.Record.{ordinal_field, register_day_field, record_of}
use Rattle.citation.specs.DayCited.{constants_in, elapsed_in, CitedMonth, NamesDay, OnDate}
use Rattle.reckoning.specs.WordedRefusals.{Row, FirstOf}
use Rattle.citation.specs.CitationRefusals.{content_rows, WrongSystem, HasMonth, WrongYear, WrongMonth, WrongLeap, Placed, NotPlaced, Tells}
use Rattle.citation.specs.Store.{refuse_telling, refuse, accept, days_to_name, judge_register_day, judge_ordinal, judge_day, judge_name}
use Rattle.citation.proofs.OneDay.{month_once}
use Rattle.citation.proofs.JudgementCases.{date_refused, date_accepted, ordinal_refused, ordinal_accepted}
use Rattle.citation.proofs.JudgementCases.{month_refused, day_wrong_lem, day_right}
use Rattle.citation.proofs.JudgementCases.{name_month_refused, no_name, name_past, name_right}

-- What the judgement of an accepted citation holds: the day that it names, by year, month and day of the month, and
-- the record of that date.
pub record Kept (s : List ℕ) (j : JudgementAnswer) : Type 0 where
  pub year : ℕ
  pub month : ℕ
  pub leap : ℕ
  pub day : ℕ
  pub dated : OnDate (system_of s) j.day.0 year month leap day
  pub stored : j.stored ≡ record_of (system_of s) year month leap day
  pub names : NamesDay s j.day.0

-- A citation judged by rows of refusals: the first that applies, with what it tells, or none.
pub data Judged (rows : List Row) (s : List ℕ) (j : JudgementAnswer) : Type 0 where
  refused : (number told : ℕ) → 0 < number → Tells s number told → j ≡ refuse_telling number told → FirstOf rows number
      → Judged rows s j
  accepted : j.refusal ≡ 0 → j.told ≡ 0 → FirstOf rows 0 → Kept s j → Judged rows s j

-- Any number but LEAP tells nothing.
pub plainly_refused : {rows : List Row} {s : List ℕ} {j : JudgementAnswer} (number : ℕ) → (0 < number) × (number ≡ LEAP → ⊥)
    → j ≡ refuse number
    → FirstOf rows number
    → Judged rows s j
plainly_refused number other e rows = Judged.refused number 0 other.0 (inr (other.1, refl)) e rows

-- A value that carries a refusal number is judged by that number.
refused_as : {A : Type 0} {v w : A} {j : JudgementAnswer} → v ≡ w → (number told : A → ℕ) → 0 < number w
    → ((number v ≡ 0 → ⊥) → refuse_telling (number v) (told v) ≡ j)
    → j ≡ refuse_telling (number w) (told w)
refused_as e number told some r =
    sym (r (λ z. omega (arith, ap number e))) ∙ ap (λ x. refuse_telling (number x) (told x)) e

module _ (s : List ℕ) where
  abbrev c : Constants
  c = constants_in s

  -- Neither month nor leap mark is wrong.
  abbrev pub MonthRight : Type 0
  MonthRight = (WrongMonth s → ⊥) × (WrongLeap s → ⊥)

  -- Kinds 3 and 4 have no month.
  no_month_lem : (HasMonth s → ⊥) → MonthRight
  no_month_lem h = (λ v. h v.0, λ v. h v.0)

  kind_three : kind_of s ≡ 3 → HasMonth s → ⊥
  kind_three three = ⊎_elim (λ e. omega arith) (λ e. omega arith)

  kind_four : kind_of s ≡ 4 → HasMonth s → ⊥
  kind_four four = ⊎_elim (λ e. omega arith) (λ e. omega arith)

  -- The month of kinds 1 and 5: refused SYSTEM, YEAR, MONTH or LEAP, or found.
  month_judged : (j : JudgementAnswer) (m : MonthAnswer) → HasMonth s
      → MonthOutcome (system_of s) (year_field s) (month_field s) (leap_field s) m
      → ((m.refusal ≡ 0 → ⊥) → refuse_telling m.refusal m.told ≡ j)
      → (MonthFound (system_of s) (year_field s) (month_field s) (leap_field s) m → MonthRight → Judged (content_rows s) s j)
      → Judged (content_rows s) s j
  month_judged j m kind (MonthOutcome.system_refused w e) r f =
      plainly_refused SYSTEM (omega arith) (refused_as e (λ x. x.refusal) (λ x. x.told) (omega arith) r) (inl (refl, w))
  month_judged j m kind (MonthOutcome.year_refused i w e) r f =
      plainly_refused YEAR (omega arith) (refused_as e (λ x. x.refusal) (λ x. x.told) (omega arith) r)
      (inr (λ v. v i, inl (refl, (inl kind, w))))
  month_judged j m kind (MonthOutcome.month_refused i w e) r f =
      plainly_refused MONTH (omega arith) (refused_as e (λ x. x.refusal) (λ x. x.told) (omega arith) r)
      (inr (λ v. v i.system_inside, inr (λ v. v.1 i.year_inside, inl (refl, (kind, w)))))
  month_judged j m kind (MonthOutcome.leap_refused i there w told l e) r f =
      Judged.refused LEAP told (omega arith) (inl (refl, l)) (refused_as e (λ x. x.refusal) (λ x. x.told) (omega arith) r)
      (inr (λ v. v i.system_inside, inr (λ v. v.1 i.year_inside, inr (λ v. there v.1, inl (refl, (kind, w))))))
  month_judged j m kind (MonthOutcome.found f) r g =
      g f (
        λ w. ⊎_elim (λ v. v f.number_inside) (λ v. v f.mark_inside) w.1,
        λ w.
            w.1.1
            (record { month = f.k; is_leap = subst (λ x. MonthNumbered c (elapsed_in s) (month_field s) x f.k) w.1.0 f.numbered }),
      )

  -- What is left to judge where system, year and month are right: the place.
  pub place_rows : {number : ℕ} → InScope (system_of s) (year_field s) → MonthRight
      → ((number ≡ DAY) × NotPlaced s) ⊎ ((NotPlaced s → ⊥) × (number ≡ 0))
      → FirstOf (content_rows s) number
  place_rows i w p =
      let system_right : WrongSystem s → ⊥ = λ v. v i.system_inside in
      let year_right : WrongYear s → ⊥ = λ v. v.1 i.year_inside in
      inr (system_right, inr (year_right, inr (w.0, inr (w.1, p))))

  -- Kind 1.
  pub day_not_placed : kind_of s ≡ 1 → (k : ℕ) → CitedMonth s k → (Inside 1 (month_length c k) (day_field s) → ⊥) → NotPlaced s
  day_not_placed e k n out (Placed.day_in_month f l o i) =
      out (subst (λ x. Inside 1 (month_length c x) (day_field s)) (month_once s l k o n) i)
  day_not_placed e k n out (Placed.name_in_month f l d r o i is g) = omega arith
  day_not_placed e k n out (Placed.ordinal_in_year f y i) = omega arith
  day_not_placed e k n out (Placed.day_in_scope f d) = omega arith

  pub day_judged : kind_of s ≡ 1
      → Judged (content_rows s) s (judge_day (system_of s) (year_field s) (month_field s) (leap_field s) (day_field s))
  day_judged kind =
      let m = month_of (system_of s) (year_field s) (month_field s) (leap_field s) in
      month_judged (judge_day (system_of s) (year_field s) (month_field s) (leap_field s) (day_field s)) m (inl kind)
      (month_outcome (system_of s) (year_field s) (month_field s) (leap_field s))
      (month_refused _ _ _ _ _ m refl)
      (λ f w.
      let i = f.in_scope in
      let k = f.k in
      let n = f.numbered in
      let z = f.not_refused in
      let l = f.length_is in
      by_inside 1 m.length (day_field s)
      (λ e out.
      plainly_refused DAY (omega arith) (sym (day_wrong_lem _ _ _ _ _ m refl z e))
      (place_rows i w (inl (refl, day_not_placed kind k n (λ p. out (subst (λ x. Inside 1 x (day_field s)) (sym l) p))))))
      (λ e into.
      let inside = subst (λ x. Inside 1 x (day_field s)) l into in
      let j = accept (m.head.0 + day_field s - 1) (system_of s) (year_field s) (month_field s) (leap_field s) (day_field s) in
      let day_is : IsRegisterDay c j.day.0 (day_of_month c k (day_field s)) = omega (arith, into) in
      subst (Judged (content_rows s) s) (day_right _ _ _ _ _ m refl z e)
      (Judged.accepted refl refl (place_rows i w (inr (λ v. v (Placed.day_in_month kind k n inside), refl)))
      (record {
        year = year_field s;
        month = month_field s;
        leap = leap_field s;
        day = day_field s;
        dated = record { k = k; in_scope = i; numbered = n; placed = inside; day_is = day_is };
        stored = refl;
        names = NamesDay.by_day kind k n day_is;
      }))))

  -- Kind 5.
  name_not_placed : kind_of s ≡ 5 → (k : ℕ) → CitedMonth s k
      → ((d r : ℕ) → InMonth c k d → IsRegisterDay c r d → name_of r ≡ name_field s → ⊥)
      → NotPlaced s
  name_not_placed e k n out (Placed.day_in_month f l o i) = omega arith
  name_not_placed e k n out (Placed.name_in_month f l d r o i is g) =
      out d r (subst (λ x. InMonth c x d) (month_once s l k o n) i) is g
  name_not_placed e k n out (Placed.ordinal_in_year f y i) = omega arith
  name_not_placed e k n out (Placed.day_in_scope f d) = omega arith

  pub name_judged : kind_of s ≡ 5
      → Judged (content_rows s) s (judge_name (system_of s) (year_field s) (month_field s) (leap_field s) (name_field s))
  name_judged kind =
      let m = month_of (system_of s) (year_field s) (month_field s) (leap_field s) in
      let head = m.head.0 in
      let days = days_to_name head (name_field s) in
      month_judged (judge_name (system_of s) (year_field s) (month_field s) (leap_field s) (name_field s)) m (inr kind)
      (month_outcome (system_of s) (year_field s) (month_field s) (leap_field s))
      (name_month_refused _ _ _ _ _ m refl)
      (λ f w.
      let i = f.in_scope in
      let k = f.k in
      let n = f.numbered in
      let z = f.not_refused in
      let short = (reckoned c (consistent (system_of s))).month_most k in
      let least = (reckoned c (consistent (system_of s))).month_least k in
      by_inside 1 60 (name_field s)
      (λ far out.
      plainly_refused DAY (omega arith) (sym (no_name _ _ _ _ _ m refl z far))
      (place_rows i w
      (inl (refl, name_not_placed kind k n (λ d r p is e. out (record { at_least = omega arith; at_most = omega arith }))))))
      (λ near into.
      by_order days m.length
      (λ b.
      let j = accept (head + days) (system_of s) (year_field s) (month_field s) (leap_field s) (days + 1) in
      let d = day_of_month c k (days + 1) in
      let day_is : IsRegisterDay c j.day.0 d = omega arith in
      let in_month : InMonth c k d = (omega arith, omega arith) in
      let is_named : name_of j.day.0 ≡ name_field s = omega arith in
      subst (Judged (content_rows s) s) (name_right _ _ _ _ _ m refl z near b)
      (Judged.accepted refl refl (place_rows i w (inr (λ v. v (Placed.name_in_month kind k d j.day.0 n in_month day_is is_named), refl)))
      (record {
        year = year_field s;
        month = month_field s;
        leap = leap_field s;
        day = days + 1;
        dated = record {
          k = k;
          in_scope = i;
          numbered = n;
          placed = record { at_least = omega arith; at_most = omega arith };
          day_is = day_is;
        };
        stored = refl;
        names = NamesDay.by_name kind k d n in_month day_is is_named;
      })))
      (λ b.
      plainly_refused DAY (omega arith) (sym (name_past _ _ _ _ _ m refl z near b))
      (place_rows i w (inl (refl, name_not_placed kind k n (λ d r p is e. omega (arith, p, is, e))))))))

  -- A day that is named and has a date is kept.
  kept_by_date : (r : ℕ) (d : DateAnswer) → NamesDay s r → DateFound (system_of s) r d
      → Kept s (accept r (system_of s) d.year d.month d.leap d.day)
  kept_by_date r d names f =
      record {
        year = d.year;
        month = d.month;
        leap = d.leap;
        day = d.day;
        dated = record {
          k = f.k;
          in_scope = f.in_scope;
          numbered = f.numbered;
          placed = record { at_least = omega arith; at_most = omega arith };
          day_is = omega (arith, f.day_in_scope.is_day);
        };
        stored = refl;
        names = names;
      }

  -- Kind 4.
  no_year_lem : kind_of s ≡ 4 → WrongYear s → ⊥
  no_year_lem four w = ⊎_elim (kind_four four) (λ e. omega arith) w.0

  day_out_of_scope : kind_of s ≡ 4 → (DayInScope (system_of s) (register_day_field s) → ⊥) → NotPlaced s
  day_out_of_scope e out (Placed.day_in_month f l o i) = omega arith
  day_out_of_scope e out (Placed.name_in_month f l d r o i is g) = omega arith
  day_out_of_scope e out (Placed.ordinal_in_year f y i) = omega arith
  day_out_of_scope e out (Placed.day_in_scope f d) = out d

  register_day_judged_by : kind_of s ≡ 4 → (d : DateAnswer) → d ≡ date_of (system_of s) (register_day_field s)
      → DateOutcome (system_of s) (register_day_field s) d
      → Judged (content_rows s) s (judge_register_day (system_of s) (register_day_field s))
  register_day_judged_by kind d is (DateOutcome.system_refused w e) =
      plainly_refused SYSTEM (omega arith) (refused_as e (λ x. x.refusal) (λ x. 0) (omega arith) (date_refused _ _ d is))
      (inl (refl, w))
  register_day_judged_by kind d is (DateOutcome.day_refused i w e) =
      plainly_refused DAY (omega arith) (refused_as e (λ x. x.refusal) (λ x. 0) (omega arith) (date_refused _ _ d is))
      (inr (λ v. v i, inr (no_year_lem kind, inr ((no_month_lem (kind_four kind)).0, inr ((no_month_lem (kind_four kind)).1, inl (refl, day_out_of_scope kind w))))))
  register_day_judged_by kind d is (DateOutcome.found f) =
      let system_right : WrongSystem s → ⊥ = λ v. v f.in_scope.system_inside in
      let month_right = no_month_lem (kind_four kind) in
      let place_right : NotPlaced s → ⊥ = λ v. v (Placed.day_in_scope kind f.day_in_scope) in
      subst (Judged (content_rows s) s) (date_accepted _ _ d is f.not_refused)
      (Judged.accepted refl refl (inr (system_right, inr (no_year_lem kind, inr (month_right.0, inr (month_right.1, inr (place_right, refl))))))
      (kept_by_date (register_day_field s) d (NamesDay.by_register_day kind refl) f))

  pub register_day_judged : kind_of s ≡ 4 → Judged (content_rows s) s (judge_register_day (system_of s) (register_day_field s))
  register_day_judged kind = register_day_judged_by kind _ refl (date_outcome (system_of s) (register_day_field s))

  -- Kind 3.
  ordinal_not_placed : kind_of s ≡ 3 → (y : Span c (elapsed_in s)) → (Inside 1 (year_length y) (ordinal_field s) → ⊥) → NotPlaced s
  ordinal_not_placed e y out (Placed.day_in_month f l o i) = omega arith
  ordinal_not_placed e y out (Placed.name_in_month f l d r o i is g) = omega arith
  ordinal_not_placed e y out (Placed.ordinal_in_year f x i) =
      let ok = consistent (system_of s) in
      let head = ap (month_head c) (span_first c ok x ∙ sym (span_first c ok y)) in
      let next = ap (month_head c) (span_next c ok x ∙ sym (span_next c ok y)) in
      out (record { at_least = i.at_least; at_most = omega (arith, i.at_most) })
  ordinal_not_placed e y out (Placed.day_in_scope f d) = omega arith

  ordinal_judged_by : kind_of s ≡ 3 → (d : OrdinalAnswer) → d ≡ ordinal_day_of (system_of s) (year_field s) (ordinal_field s)
      → OrdinalOutcome (system_of s) (year_field s) (ordinal_field s) d
      → Judged (content_rows s) s (judge_ordinal (system_of s) (year_field s) (ordinal_field s))
  ordinal_judged_by kind d is (OrdinalOutcome.system_refused w e) =
      plainly_refused SYSTEM (omega arith) (refused_as e (λ x. x.refusal) (λ x. 0) (omega arith) (ordinal_refused _ _ _ d is))
      (inl (refl, w))
  ordinal_judged_by kind d is (OrdinalOutcome.year_refused i w e) =
      plainly_refused YEAR (omega arith) (refused_as e (λ x. x.refusal) (λ x. 0) (omega arith) (ordinal_refused _ _ _ d is))
      (inr (λ v. v i, inl (refl, (inr kind, w))))
  ordinal_judged_by kind d is (OrdinalOutcome.day_refused i Span-of out e) =
      plainly_refused DAY (omega arith) (refused_as e (λ x. x.refusal) (λ x. 0) (omega arith) (ordinal_refused _ _ _ d is))
      (place_rows i (no_month_lem (kind_three kind)) (inl (refl, ordinal_not_placed kind Span-of out)))
  ordinal_judged_by kind d is (OrdinalOutcome.found f) =
      let placed = Placed.ordinal_in_year kind f.span f.inside in
      subst (Judged (content_rows s) s) (ordinal_accepted _ _ _ d is f.not_refused)
      (Judged.accepted refl refl (place_rows f.in_scope (no_month_lem (kind_three kind)) (inr (λ v. v placed, refl)))
      (record {
        year = year_field s;
        month = d.month;
        leap = d.leap;
        day = d.place;
        dated = record {
          k = f.k;
          in_scope = f.in_scope;
          numbered = f.numbered;
          placed = record { at_least = omega (arith, f.place_is); at_most = omega (arith, f.place_is, f.in_month) };
          day_is = omega (arith, f.is_day, f.place_is, f.in_month);
        };
        stored = refl;
        names = NamesDay.by_ordinal kind f.span f.is_day;
      }))

  pub ordinal_judged : kind_of s ≡ 3 → Judged (content_rows s) s (judge_ordinal (system_of s) (year_field s) (ordinal_field s))
  ordinal_judged kind = ordinal_judged_by kind _ refl (ordinal_outcome (system_of s) (year_field s) (ordinal_field s))
