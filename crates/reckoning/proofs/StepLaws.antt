-- Equal steps of a year: the code's numbers fit, and what it answers.
use Prim.Native.Nat.{ℕ, ◌+◌, ◌*◌, ◌^◌, ◌≤◌, ◌<◌}
use mathlib.Core.Path.{◌≡◌, refl, sym, ap, ◌∙◌}
use native.Mathlib.Omega.{arith}
use Rattle.calendar.specs.declared.data.Constants.{Constants}
use Rattle.calendar.specs.Systems.{years_elapsed}
use Rattle.calendar.specs.Steps.{solstice, DividesYear, moment}
use Rattle.calendar.specs.Consistent.{Consistent}
use Rattle.calendar.proofs.Steps.{steps_close, moments_rise, steps_in_year}
use Rattle.reckoning.specs.Answers.{MomentAnswer}
use Rattle.reckoning.specs.declared.calendars.Accepted.{Accepted}
use Rattle.reckoning.specs.declared.refusal.Refusal.{Refusal}
use Rattle.reckoning.specs.ComputedRefusals.{step_refusal}
use Rattle.reckoning.specs.Divisions.{Division, qis, pentads}
use Rattle.reckoning.specs.Asked.{Asked, asked_of}
use Rattle.reckoning.specs.RefusalNumbers.{number_of}
use Rattle.reckoning.specs.Told.{accepted_as}
use Rattle.reckoning.specs.Requests.{answer_to, no_moment, step_in, step_of}
use Rattle.reckoning.specs.WordBounds.{ConstantsFit, StepFits, YearInRegister}
use Rattle.reckoning.proofs.RefusalCases.{accepted_step}
use Rattle.reckoning.proofs.ToldCases.{number_not_0}
use Rattle.reckoning.proofs.AnswerUnless.{refused, answered, asked_in_register}

-- A step of a year within the register fits, where the next solstice does in those units.
pub step_fits : {c : Constants} {n : ℕ} (s u i : ℕ) → YearInRegister c n → DividesYear c s u → 0 < s → 0 < u → u < 2 ^ 32
    → solstice c (n + 1) * u < 2 ^ 62 → i ≤ s → StepFits c s u n i
step_fits {c} {n} s u i r whole s_some u_some u-small next h =
    let ok = r.constants_fit.consistent in
    let day = steps_in_year c s s_some ok.solar_some u u_some whole n i h in
    let up_to_next : moment c s u n i ≤ moment c s u n s = moments_rise c s u whole s_some u_some n i n s (omega arith) in
    record {
      constants_fit = r.constants_fit;
      steps_some = s_some;
      units_some = u_some;
      units_small = u-small;
      year_small = omega arith;
      solstice_small = r.solstice_small;
      moment_small = omega (arith, steps_close c s u whole n);
      day = record {
        from = omega (arith, r.solstice_in_register);
        before = omega (arith, r.next_solstice_day);
        small = omega (arith, r.next_solstice_day);
      };
    }

-- What the laws ask of a division, for any constants.
pub record Sound (division : Division) : Type 0 where
  pub exact : (c : Constants) → Consistent c → DividesYear c division.steps (division.units c)
  pub steps_some : 0 < division.steps
  pub units_some : (c : Constants) → Consistent c → 0 < division.units c
  pub units_small : (c : Constants) → ConstantsFit c → division.units c < 2 ^ 32
  pub next_small : (c : Constants) (n : ℕ) → YearInRegister c n → solstice c (n + 1) * division.units c < 2 ^ 62
  pub last_inside : division.last ≤ division.steps

pub qis_sound : Sound qis
qis_sound =
    record {
      exact = λ c ok. ok.qi_exact;
      steps_some = omega arith;
      units_some = λ c ok. ok.units_some;
      units_small = λ c fit. fit.units_small;
      next_small = λ c n r. r.next_in_units;
      last_inside = omega arith;
    }

pub pentads_sound : Sound pentads
pentads_sound =
    record {
      exact = λ c ok. ok.pentads_exact;
      steps_some = omega arith;
      units_some = λ c ok. ok.denominator_some;
      units_small = λ c fit. fit.denominator_small;
      next_small = λ c n r. r.next_in_pentad_units;
      last_inside = omega arith;
    }

-- A step that is asked for in scope fits.
pub asked_fits : (division : Division) → Sound division → (system year i : ℕ) {asked : Asked}
    → asked ≡ asked_of (step_refusal division.last system year i) system year
    → asked.refusal ≡ 0
    → StepFits asked.c division.steps (division.units asked.c) asked.n i
asked_fits division sound system year i {asked} e accepted =
    let s = accepted_step division.last system year i (sym (ap (λ a. a.refusal) e) ∙ accepted) in
    let r = asked_in_register asked _ _ _ e s.0 in
    let fit = r.constants_fit in
    step_fits division.steps (division.units asked.c) i r
    (sound.exact asked.c fit.consistent)
    sound.steps_some
    (sound.units_some asked.c fit.consistent)
    (sound.units_small asked.c fit)
    (sound.next_small asked.c asked.n r)
    (omega (arith, s.1, sound.last_inside))

-- What is answered to what is asked is the step; by a result, it is the blank, refused, or else the step.
module _ (division : Division) (system year i : ℕ) where
  pub answers_step : {asked : Asked} {v : MomentAnswer}
      → asked ≡ asked_of (step_refusal division.last system year i) system year
      → v ≡ answer_to asked (step_in division.steps (division.units asked.c) i) no_moment
      → v ≡ step_of division system year i
  unfolding step_of
  answers_step e is =
      is ∙ ap (λ a. answer_to a (step_in division.steps (division.units a.c) i) no_moment) e

  pub refuses_step : (r : Refusal) → asked_of (number_of r) system year ≡ asked_of (step_refusal division.last system year i) system year
      → no_moment (number_of r) ≡ step_of division system year i
  refuses_step r e =
      let asked = asked_of (number_of r) system year in
      answers_step e (refused (step_in division.steps (division.units asked.c) i) no_moment asked asked refl (number_not_0 r))

  pub answers_accepted_step : (asked : Accepted) {v : MomentAnswer}
      → accepted_as asked ≡ asked_of (step_refusal division.last system year i) system year
      → v ≡ step_in division.steps (division.units asked.calendar.c) i asked.calendar.c (years_elapsed asked.calendar.c asked.year)
      → v ≡ step_of division system year i
  answers_accepted_step asked e is =
      answers_step e (is ∙ answered (step_in division.steps (division.units asked.calendar.c) i) no_moment (accepted_as asked) _ refl refl)
