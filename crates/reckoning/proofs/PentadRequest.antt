-- The pentad in force on a register day: from the epoch on its year tells whether the day is in scope.
use Prim.Native.Nat.{ℕ, ◌+◌, ◌/◌, ◌%◌}
use mathlib.Core.Path.{◌≡◌, sym, ap, ◌∙◌}
use mathlib.Core.Bool.{Bool, true, false}
use Rattle.calendar.specs.declared.data.Constants.{Constants}
use Rattle.calendar.specs.Systems.{count_day, before_epoch}
use Rattle.calendar.specs.Steps.{solstice_day}
use Rattle.calendar.specs.ClosedForms.{pentad_on}
use Rattle.calendar.proofs.PentadLaws.{year_from, year_before}
use Rattle.reckoning.specs.declared.closed_forms.LastStep.{LastStep}
use Rattle.reckoning.specs.CommonYears.{common_year, out_of_scope}
use Rattle.reckoning.specs.LastSteps.{last_step}
use Rattle.reckoning.specs.RefusalNumbers.{DAY}
use Rattle.reckoning.specs.Requests.{in_force_at, none_in_force, in_force_in}
use Rattle.reckoning.specs.WordBounds.{ConstantsFit}
use Rattle.reckoning.proofs.YearOfDay.{before_years, is_its_day, day_outside, day_inside}

-- A day before the epoch.
pub pentad_before : (c : Constants) (r : ℕ) {early : Bool} → early ≡ before_epoch c r → early ≡ true
    → none_in_force DAY ≡ in_force_in c r
unfolding in_force_in
pentad_before c r test before = simp (before_years (solstice_day c) c r (sym test ∙ before))

-- One from the epoch on.
module _ {c : Constants} (fit : ConstantsFit c) (r : ℕ) {early : Bool} (tested : early ≡ before_epoch c r)
    (passed : early ≡ false)
    {d : ℕ}
    (day : d ≡ count_day c r)
    {last : LastStep}
    (found : last ≡ last_step c 72 (d + 1))
    {b : Bool}
    (test : b ≡ out_of_scope c (last.step / 72))
  where
    step_is : last.step ≡ pentad_on c d
    step_is = ap (λ x. x.step) found

    scope_is : b ≡ out_of_scope c (pentad_on c d / 72)
    scope_is = test ∙ ap (λ h. out_of_scope c (h / 72)) step_is

    pub pentad_outside : b ≡ true → none_in_force DAY ≡ in_force_in c r
    unfolding in_force_in
    pentad_outside out =
        simp (day_outside c fit.consistent.epoch_before (solstice_day c) r d (pentad_on c d / 72) (is_its_day c r (sym tested ∙ passed) day)
        (year_from c fit.consistent d)
        (year_before c fit.consistent d)
        (sym scope_is ∙ out))

    pub pentad_inside : {year : ℕ} → year ≡ common_year c (last.step / 72) → b ≡ false
        → record { refusal = 0; year = year; pentad = last.step % 72 } ≡ in_force_in c r
    unfolding in_force_in
    pentad_inside is inside =
        let year_here = is ∙ ap (λ h. common_year c (h / 72)) step_is in
        (λ j. record { refusal = 0; year = year_here j; pentad = step_is j % 72 })
        ∙ ap (in_force_at c) day
        ∙ simp (day_inside c fit.consistent.epoch_before (solstice_day c) r d (pentad_on c d / 72) (is_its_day c r (sym tested ∙ passed) day)
        (year_from c fit.consistent d)
        (year_before c fit.consistent d)
        (sym scope_is ∙ inside))
