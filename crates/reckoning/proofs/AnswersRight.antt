-- The answers for a qi, a pentad and a day sheet hold what the reckoning says, in each system and year in scope.
use Prim.Native.Nat.{ℕ, ◌+◌, ◌*◌, ◌-◌, ◌≤◌}
use mathlib.Core.Path.{◌≡◌, refl, subst, subst₂, sym, ap, ◌∙◌}
use native.Mathlib.Omega.{arith}
use lib.ListN.{get_or-replicate}
use Rattle.calendar.specs.declared.data.Constants.{Constants}
use Rattle.calendar.specs.Systems.{constants_of, years_elapsed, register_day}
use Rattle.calendar.specs.Steps.{moment, day_of}
use Rattle.calendar.specs.Qi.{qi}
use Rattle.calendar.specs.ClosedForms.{head_of_year}
use Rattle.calendar.proofs.EachSystem.{consistent, one_a_year}
use Rattle.calendar.proofs.Spans.{span}
use Rattle.calendar.proofs.Steps.{told}
use Rattle.calendar.proofs.QiLaws.{qi_closes, qi_zero}
use Rattle.calendar.proofs.PentadLaws.{every_third_told_alike}
use Rattle.calendar.proofs.NameLaws.{names_agree}
use Rattle.reckoning.specs.Scope.{InScope}
use Rattle.reckoning.specs.ComputedRefusals.{step_refusal}
use Rattle.reckoning.specs.Divisions.{Division, qis, pentads}
use Rattle.reckoning.specs.Asked.{asked_of}
use Rattle.reckoning.specs.WordBounds.{StepFits, YearInRegister}
use Rattle.reckoning.specs.Requests.{moment_in, no_moment, step_in, step_of, qi_of, pentad_of}
use Rattle.reckoning.specs.Requests.{name_at, no_names, sheet_in, no_sheet, sheet_of}
use Rattle.reckoning.specs.AnswerMeanings.{IsSolstice, IsMoment, IsQi, IsPentad, SameMoment, IsSheet}
use Rattle.reckoning.proofs.FilledLaws.{filled_below, filled_past, filled_length}
use Rattle.reckoning.proofs.RefusalCases.{in_scope_step}
use Rattle.reckoning.proofs.ScopeInRegister.{year_in_register}
use Rattle.reckoning.proofs.AnswerUnless.{answered, answered_year}
use Rattle.reckoning.proofs.StepLaws.{Sound, qis_sound, pentads_sound, asked_fits}
use Rattle.reckoning.proofs.RegisterLaws.{first_head, next_head_lem, register_length_most}

module _ (system year : ℕ) (s : InScope system year) where
  abbrev c : Constants
  c = constants_of system

  abbrev n : ℕ
  n = years_elapsed c year

  r : YearInRegister c n
  r = year_in_register system year s.year_inside

  -- a step of the year, told
  told_step : (s u i : ℕ) → StepFits c s u n i → IsMoment c u (moment c s u n i) (step_in s u i c n)
  told_step s u i f =
      let m = moment c s u n i in
      let t = told c u m (consistent system).solar_some f.units_some in
      record {
        accepted = refl;
        day = day_of c u m;
        is_day = omega (arith, f.day);
        moment = sym t.whole;
        parts_below = t.parts_below;
        units_below = t.units_below;
      }

  module _ (division : Division) (i : ℕ) (h : i ≤ division.last) where
    accepted : step_refusal division.last system year i ≡ 0
    accepted = in_scope_step division.last system year i s h

    step_answered : step_in division.steps (division.units c) i c n ≡ step_of division system year i
    unfolding step_of
    step_answered =
        answered (λ k m. step_in division.steps (division.units k) i k m) no_moment
        (asked_of (step_refusal division.last system year i) system year)
        _
        refl
        accepted

    step_holds : Sound division
        → IsMoment c (division.units c) (moment c division.steps (division.units c) n i) (step_of division system year i)
    step_holds sound =
        subst (IsMoment c (division.units c) (moment c division.steps (division.units c) n i)) step_answered
        (told_step division.steps (division.units c) i (asked_fits division sound system year i refl accepted))

  pub qi_holds : (i : ℕ) → i ≤ 24 → IsQi c n i (qi_of system year i)
  qi_holds i h = step_holds qis i h qis_sound

  -- Qi 0 is the solstice,
  pub qi_0_is_solstice : IsSolstice c n (qi_of system year 0)
  qi_0_is_solstice =
      let zero = qi_zero c (consistent system) n in
      subst (IsSolstice c n) (step_answered qis 0 (omega arith))
      (record {
        accepted = refl;
        day = omega (arith, r.solstice_in_register, zero.0);
        remainder = zero.1;
        no_units = zero.2;
      })

  -- and qi 24 is qi 0 of the year after, to the last unit, be that year in scope or not.
  qi_24_closes : qi c n 24 ≡ qi c (years_elapsed c (year + 1)) 0
  qi_24_closes = qi_closes c (consistent system) n ∙ ap (λ m. qi c m 0) (sym (one_a_year c (consistent system) year))

  pub qi_24_is_next_qi_0 : IsQi c (years_elapsed c (year + 1)) 0 (qi_of system year 24)
  qi_24_is_next_qi_0 =
      subst (λ m. IsMoment c c.units m (qi_of system year 24)) qi_24_closes (qi_holds 24 (omega arith))

  pub pentad_holds : (p : ℕ) → p ≤ 71 → IsPentad c n p (pentad_of system year p)
  pentad_holds p h = step_holds pentads p h pentads_sound

  -- Every third pentad is a qi, to the last unit.
  pub third_pentad_is_qi : (i : ℕ) → i ≤ 23 → SameMoment c (pentad_of system year (3 * i)) (qi_of system year i)
  third_pentad_is_qi i h =
      let t = every_third_told_alike c (consistent system) n i in
      subst₂ (SameMoment c) (step_answered pentads (3 * i) (omega arith)) (step_answered qis i (omega arith))
      (record { day = ap (register_day c) t.day; parts = t.parts; units = t.units })

  pub sheet_holds : IsSheet c n (sheet_of system year)
  unfolding sheet_of sheet_in
  sheet_holds =
      let head = register_day c (head_of_year c n) in
      let long = register_day c (head_of_year c (n + 1)) - head in
      let a = first_head c n r in
      let b = next_head_lem c n r in
      let whole : long ≡ head_of_year c (n + 1) - head_of_year c n = omega arith in
      let most : long ≤ 384 = register_length_most c n r in
      subst (IsSheet c n)
      (answered_year sheet_in no_sheet system year s)
      (record {
        accepted = refl;
        span = span c (consistent system) n;
        size = filled_length _ _ _;
        name = λ i h.
            filled_below (name_at head) no_names 0 long i (omega arith) most
            ∙ names_agree c (consistent system) (head + i) (head_of_year c n + i) (omega arith);
        past = λ i h l. filled_past (name_at head) no_names 0 long i (omega arith) ∙ get_or-replicate 384 i 255 0 l;
      })

-- Where the year after is in scope too, they are one answer.
pub qi_24_answered_alike : (system year : ℕ) → InScope system year → InScope system (year + 1)
    → qi_of system year 24 ≡ qi_of system (year + 1) 0
qi_24_answered_alike system year s next =
    let c = constants_of system in
    sym (step_answered system year s qis 24 (omega arith))
    ∙ ap (moment_in c c.units) (qi_24_closes system year s)
    ∙ step_answered system (year + 1) next qis 0 (omega arith)
