-- Middle qi, numbers and leap marks: the worded rules and the closed forms agree.
use Prim.Native.Nat.{ℕ, zero, suc, ◌+◌, ◌*◌, ◌/◌, ◌%◌}
use mathlib.Core.Path.{◌≡◌, ◌∙◌, subst, sym, ap}
use mathlib.Core.Logic.{inl, inr, ⊎_elim}
use native.Mathlib.Omega.{arith}
use Rattle.calendar.specs.declared.data.Constants.{Constants}
use Rattle.calendar.specs.Steps.{day_of}
use Rattle.calendar.specs.Month.{InMonth, middle_qi, Holds, HoldsSome, Lacks, number_of, Bears, ordinary, leap, Marked}
use Rattle.calendar.specs.Consistent.{Consistent}
use Rattle.calendar.specs.Calendar.{Calendar}
use Rattle.calendar.specs.ClosedForms.{month_of_day, month_of_qi, qi_of_month, month_number, leap_mark}
use Rattle.calendar.proofs.Rising.{by_order}
use Rattle.calendar.proofs.EveryCalendar.{Held, by_held, month_unique, qi_of_held, held, qi_of_lacking, behind_most}
use Rattle.calendar.proofs.QiLaws.{qi_day}
use Rattle.calendar.proofs.Reckoned.{reckoned}

module _ (c : Constants) (ok : Consistent c) where
  abbrev K : Calendar
  K = reckoned c ok

  pub month_of_held : (k n j : ℕ) → Holds c k n j → month_of_qi c (12 * n + j) ≡ k
  month_of_held k n j h =
      sym (month_unique K k (day_of c c.units (middle_qi c n j)) h.0 h.1 ∙ ap (month_of_day c) (qi_day c ok n j))

  pub holds_of_month : (k n j : ℕ) → month_of_qi c (12 * n + j) ≡ k → Holds c k n j
  holds_of_month k n j e =
      let d = day_of c c.units (middle_qi c n j) in
      subst (λ l. InMonth c l d) (ap (month_of_day c) (qi_day c ok n j) ∙ e) (K.day_from d, K.day_before d)

  -- A month holds a middle qi just when the last one up to its end is in it.
  pub held_of_holds : (k : ℕ) → HoldsSome c k → Held K k
  held_of_holds k h = held K (12 * h.year + h.index) k (month_of_held k h.year h.index h.holds)

  pub holds_of_held : (k : ℕ) → Held K k → HoldsSome c k
  holds_of_held k e =
      let g = qi_of_month c k in
      let again : 12 * (g / 12) + g % 12 ≡ g = omega arith in
      record {
        year = g / 12;
        index = g % 12;
        is_middle = omega arith;
        holds = holds_of_month k (g / 12) (g % 12) (subst (λ h. month_of_qi c h ≡ k) (sym again) e);
      }

  -- The number that a month bears is the closed form's, and no other.
  pub number_of_lacking : (k : ℕ) → Lacks c (k + 1) → month_number c (k + 1) ≡ month_number c k
  number_of_lacking k l = ap (λ g. number_of (g % 12)) (qi_of_lacking K k (λ h. l (holds_of_held (k + 1) h)))

  pub number_of_held : {k : ℕ} (h : HoldsSome c k) → number_of h.index ≡ month_number c k
  number_of_held {k} h =
      let g = 12 * h.year + h.index in
      let e : g ≡ qi_of_month c k = qi_of_held K g k (month_of_held k h.year h.index h.holds) in
      ap number_of (omega (arith, h.is_middle))

  pub number_unique : {k m : ℕ} → Bears c k m → m ≡ month_number c k
  number_unique (ordinary h e) = e ∙ number_of_held h
  number_unique (leap {k} {l} {m} e lacks b) =
      number_unique b
      ∙ sym (number_of_lacking k (subst (λ x. Lacks c x) e lacks))
      ∙ ap (month_number c) (sym e)

  pub bears_its_number : (k : ℕ) → Bears c k (month_number c k)
  bears_its_number zero =
      let held = holds_of_held 0 (omega (arith, K.qi_from 0)) in
      ordinary held (sym (number_of_held held))
  bears_its_number (suc k) =
      by_held K (suc k)
      (λ h. ordinary (holds_of_held (suc k) h) (sym (number_of_held (holds_of_held (suc k) h))))
      (λ lacks_qi.
      let e : k + 1 ≡ suc k = omega arith in
      let lacks : Lacks c (suc k) = λ h. lacks_qi (held_of_holds (suc k) h) in
      let same : month_number c k ≡ month_number c (suc k) =
      sym (number_of_lacking k (subst (λ x. Lacks c x) (sym e) lacks)) ∙ ap (month_number c) e
      in
      leap (sym e) lacks (subst (λ m. Bears c k m) same (bears_its_number k)))

  -- And so is its leap mark.
  pub mark_unique : {k mark : ℕ} → Marked c k mark → mark ≡ leap_mark c k
  mark_unique {k} {mark} m =
      ⊎_elim
      (λ p. omega (arith, p.0, held_of_holds k p.1))
      (λ p.
      by_order (leap_mark c k) 1
      (λ l. absurd (p.1 (holds_of_held k (omega (arith, K.qi_from k)))))
      (λ l. omega (arith, p.0, behind_most K k)))
      m

  pub marked : (k : ℕ) → Marked c k (leap_mark c k)
  marked k =
      by_held K k
      (λ h. inl (omega arith, holds_of_held k h))
      (λ lacks_qi.
      inr (
        by_order (leap_mark c k) 1 (λ l. absurd (lacks_qi (omega (arith, K.qi_from k)))) (λ l. omega (arith, behind_most K k)),
        λ h. lacks_qi (held_of_holds k h),
      ))
