-- How the request for the pentad in force ends, in the paper's words, and that they settle the answer.
use Prim.Native.Nat.{ℕ, ◌/◌, ◌%◌}
use mathlib.Core.Path.{◌≡◌, refl, subst, sym, ◌∙◌}
use native.Mathlib.Omega.{arith}
use Rattle.calendar.specs.Systems.{last_system, constants_of, years_elapsed, count_day}
use Rattle.calendar.specs.Steps.{solstice_day}
use Rattle.calendar.specs.Pentad.{InForce, InSolarYear}
use Rattle.calendar.specs.ClosedForms.{pentad_on}
use Rattle.calendar.proofs.EachSystem.{consistent}
use Rattle.calendar.proofs.PentadLaws.{in_force, only_in_force, year_from, year_before, solar_year}
use Rattle.reckoning.specs.Answers.{PentadAnswer}
use Rattle.reckoning.specs.Scope.{SystemInScope, SolarDayInScope}
use Rattle.reckoning.specs.CommonYears.{common_year}
use Rattle.reckoning.specs.Requests.{in_force_at, in_force_in, pentad_in_force}
use Rattle.reckoning.specs.Outcomes as O
use Rattle.reckoning.proofs.RefusalCases.{by_inside}
use Rattle.reckoning.proofs.YearOfDay.{by_years}

-- On a day in scope.
found_pentad : (system r : ℕ) → SystemInScope system
    → (p : SolarDayInScope system r) → O.PentadOutcome system r (in_force_at (constants_of system) p.day)
found_pentad system r system_inside p =
    let c = constants_of system in
    let ok = consistent system in
    let d = p.day in
    let n = pentad_on c d / 72 in
    let early = year_from c ok d (years_elapsed c 1) p.from in
    let late = year_before c ok d (years_elapsed c 3001) p.before in
    let epoch = ok.epoch_before in
    let same : n ≡ years_elapsed c (common_year c n) = omega arith in
    O.PentadOutcome.found
    (record {
      in_scope = record { system_inside = system_inside; year_inside = record { at_least = omega arith; at_most = omega arith } };
      day_in_scope = p;
      not_refused = refl;
      in_year = subst (λ m. InSolarYear c m d) same (solar_year c ok d);
      in_force = subst (λ m. InForce c d m (pentad_on c d % 72)) same (in_force c ok d);
    })

pub pentad_outcome : (system r : ℕ) → O.PentadOutcome system r (pentad_in_force system r)
unfolding pentad_in_force in_force_in
pentad_outcome system r =
    let c = constants_of system in
    by_inside 1 last_system system
    (λ e no_system. O.PentadOutcome.system_refused no_system (simp e))
    (λ e system_inside.
    by_years (solstice_day c) c r
    (λ f no_day. O.PentadOutcome.day_refused system_inside (λ p. no_day p.day p.is_day (p.from, p.before)) (simp (e, f)))
    (λ f is w.
    subst (O.PentadOutcome system r) (simp (e, f))
    (found_pentad system r system_inside (record { day = count_day c r; is_day = is; from = w.0; before = w.1 }))))

-- There is no other answer that ends so.
one_found : (system r : ℕ) (v w : PentadAnswer) → O.PentadFound system r v → O.PentadFound system r w → v ≡ w
one_found system r v w a b =
    let c = constants_of system in
    let ok = consistent system in
    let d = a.day_in_scope.day in
    let same : b.day_in_scope.day ≡ d = omega (arith, a.day_in_scope.is_day, b.day_in_scope.is_day) in
    let here = only_in_force c ok d (years_elapsed c v.year) v.pentad a.in_force in
    let there = only_in_force c ok d (years_elapsed c w.year) w.pentad (subst (λ x. InForce c x (years_elapsed c w.year) w.pentad) same b.in_force) in
    let epoch = ok.epoch_before in
    let refusal : v.refusal ≡ w.refusal = omega (arith, a.not_refused, b.not_refused) in
    let year : v.year ≡ w.year = omega (arith, here.0, there.0, a.in_scope.year_inside, b.in_scope.year_inside) in
    let pentad : v.pentad ≡ w.pentad = omega (arith, here.1, there.1) in
    λ j. record { refusal = refusal j; year = year j; pentad = pentad j }

pub one_outcome : (system r : ℕ) (v w : PentadAnswer) → O.PentadOutcome system r v → O.PentadOutcome system r w → v ≡ w
one_outcome system r v w (O.PentadOutcome.system_refused a e) (O.PentadOutcome.system_refused b f) = e ∙ sym f
one_outcome system r v w (O.PentadOutcome.system_refused a e) (O.PentadOutcome.day_refused s b f) = absurd (a s)
one_outcome system r v w (O.PentadOutcome.system_refused a e) (O.PentadOutcome.found g) = absurd (a g.in_scope.system_inside)
one_outcome system r v w (O.PentadOutcome.day_refused s a e) (O.PentadOutcome.system_refused b f) = absurd (b s)
one_outcome system r v w (O.PentadOutcome.day_refused s a e) (O.PentadOutcome.day_refused t b f) = e ∙ sym f
one_outcome system r v w (O.PentadOutcome.day_refused s a e) (O.PentadOutcome.found g) = absurd (a g.day_in_scope)
one_outcome system r v w (O.PentadOutcome.found g) (O.PentadOutcome.system_refused b f) = absurd (b g.in_scope.system_inside)
one_outcome system r v w (O.PentadOutcome.found g) (O.PentadOutcome.day_refused t b f) = absurd (b g.day_in_scope)
one_outcome system r v w (O.PentadOutcome.found g) (O.PentadOutcome.found h) = one_found system r v w g h
