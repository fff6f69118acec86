-- Over the months of the value that `year` returns, marks, numbers and heads agree with the middle qi held: paper 02, Q-9.
use Prim.Native.Nat.{ℕ, ◌+◌, ◌*◌, ◌≤◌, ◌<◌}
use mathlib.Core.Path.{◌≡◌, subst, sym, ap, ◌∙◌}
use mathlib.Core.Logic.{⊎_elim}
use native.Mathlib.Omega.{arith}
use Rattle.calendar.specs.declared.data.Constants.{Constants}
use Rattle.calendar.specs.Systems.{constants_of, years_elapsed, IsRegisterDay}
use Rattle.calendar.specs.Steps.{day_of}
use Rattle.calendar.specs.Month.{new_moon, month_head, middle_qi, HoldsSome, Lacks}
use Rattle.calendar.specs.Consistent.{Consistent}
use Rattle.calendar.specs.ClosedForms.{month_number}
use Rattle.calendar.proofs.EachSystem.{consistent}
use Rattle.calendar.proofs.Numbers.{number_unique, number_of_lacking}
use Rattle.calendar.proofs.HeldQi.{moon_told, leap_just_when_none, number_by_index, indexes_all_told}
use Rattle.reckoning.specs.Answers.{YearAnswer}
use Rattle.reckoning.specs.Scope.{InScope}
use Rattle.reckoning.specs.Requests.{year_of}
use Rattle.reckoning.specs.YearValue.{head_in, number_in, leap_in, remainder_in, held_in, ListsMonths, MonthsAgree}
use Rattle.reckoning.proofs.MonthsRight.{head_upto, head_after, year_holds}

module _ (c : Constants) (ok : Consistent c) (n : ℕ) (v : YearAnswer) (y : ListsMonths c n v) where
  -- What the leap mark stands for.
  lacks : (i : ℕ) → i < v.count → leap_in v i ≡ 1 → Lacks c (y.span.first + i)
  lacks i h e = ⊎_elim (λ p. absurd (omega (arith, p.0))) (λ p. p.1) (y.leap i h)

  holds : (i : ℕ) → i < v.count → leap_in v i ≡ 0 → HoldsSome c (y.span.first + i)
  holds i h e = ⊎_elim (λ p. p.1) (λ p. absurd (omega (arith, p.0))) (y.leap i h)

  leap_repeats : (i : ℕ) → i + 1 < v.count → leap_in v (i + 1) ≡ 1 → number_in v (i + 1) ≡ number_in v i
  leap_repeats i h leap =
      let k = y.span.first + i in
      let e : y.span.first + (i + 1) ≡ k + 1 = omega arith in
      number_unique c ok (y.number (i + 1) h)
      ∙ ap (month_number c) e
      ∙ number_of_lacking c ok k (subst (λ l. Lacks c l) e (lacks (i + 1) h leap))
      ∙ sym (number_unique c ok (y.number i (omega arith)))

  qi_inside : (i r : ℕ) → i < v.count → leap_in v i ≡ 0
      → IsRegisterDay c r (day_of c c.units (middle_qi c n (held_in v i)))
      → (head_in v i ≤ r) × (r < head_in v (i + 1))
  qi_inside i r h ordinary is_day =
      ⊎_elim
      (λ p. (
        omega (arith, p.1.0, head_upto c ok n v y i (omega arith)),
        omega (arith, p.1.1, head_after c ok n v y i h),
      ))
      (λ p. absurd (p.1 (holds i h ordinary)))
      (y.held i h)

  -- The new moon, by the count day of its head and its remainder.
  moon_is : (i d : ℕ) → i < v.count → IsRegisterDay c (head_in v i) d
      → d * c.lunar + remainder_in v i ≡ new_moon c (y.span.first + i)
  moon_is i d h is_day =
      let k = y.span.first + i in
      let same : d ≡ month_head c k = omega (arith, y.head i h) in
      omega (arith, ap (λ x. x * c.lunar) same, y.remainder i h, moon_told c ok k)

  pub agree : MonthsAgree c n v
  agree =
      record {
        leap_just_when_none = λ i h. leap_just_when_none c ok n (y.span.first + i) (y.held i h) (y.leap i h);
        number_by_index = λ i h e. number_by_index c ok n (y.span.first + i) (y.held i h) (y.number i h) (holds i h e);
        leap_repeats = leap_repeats;
        indexes = rw y.count (indexes_all_told c ok y.span (held_in v) (λ i h. y.held i (omega (arith, y.count))));
        qi_inside = qi_inside;
        next_moon = λ i d e h is_d is_e. omega (arith, moon_is i d (omega arith) is_d, moon_is (i + 1) e h is_e);
      }

-- So in each system and every year in scope.
pub year_agrees : (system year : ℕ) → InScope system year
    → MonthsAgree (constants_of system) (years_elapsed (constants_of system) year) (year_of system year)
year_agrees system year s =
    let c = constants_of system in
    agree c (consistent system) (years_elapsed c year) (year_of system year) (year_holds system year s)
