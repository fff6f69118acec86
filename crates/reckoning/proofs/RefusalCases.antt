-- Refusals: which rule applies, and what an accepted request has.
use Prim.Native.Nat.{ℕ, ◌≤◌, ◌<◌}
use mathlib.Core.Path.{◌≡◌, refl, sym, ap, ◌∙◌}
use mathlib.Core.Bool.{Bool, true, false, true≢false, cond, ◌||◌}
use lib.Dec.{ltb}
use native.Mathlib.Omega.{arith}
use borrow.Author.Tests.{ltb-false, lt-ltb, le-ltb}
use Rattle.calendar.specs.Inside.{Inside}
use Rattle.calendar.specs.declared.systems.System.{System}
use Rattle.calendar.specs.declared.systems.System.TheVariants.{Guantian, Jiyuan, Jingchu}
use Rattle.calendar.specs.Systems.{last_system, system_number}
use Rattle.reckoning.specs.Scope.{SystemInScope, YearInScope, InScope}
use Rattle.reckoning.specs.ComputedRefusals.{outside, no_such_system, out_of_years, year_refusal, step_refusal}
use Rattle.reckoning.specs.RefusalNumbers.{SYSTEM, YEAR, STEP}

-- Where no rule gave a number, the first did not apply, nor did any other.
pub passed : (number : ℕ) (b : Bool) (rest : ℕ) → 0 < number → cond b number rest ≡ 0 → (b ≡ false) × (rest ≡ 0)
passed number true rest some e = absurd (omega arith)
passed number false rest some e = (refl, e)

pub inside_of : (least most x : ℕ) → outside least most x ≡ false → Inside least most x
inside_of least most x e = both (ltb x least) (ltb most x) refl refl e
  where
    both : (a b : Bool) → ltb x least ≡ a → ltb most x ≡ b → a || b ≡ false → Inside least most x
    both true b p q r = absurd (true≢false r)
    both false true p q r = absurd (true≢false r)
    both false false p q r = record { at_least = ltb-false x least p; at_most = ltb-false most x q }

pub inside : (least most x : ℕ) → Inside least most x → outside least most x ≡ false
inside least most x h = simp (le-ltb x least h.at_least, le-ltb most x h.at_most)

-- An accepted request is in scope, and one in scope is accepted.
pub accepted : (system year : ℕ) → year_refusal system year ≡ 0 → InScope system year
unfolding year_refusal
accepted system year e =
    let system_right = passed SYSTEM (no_such_system system) (cond (out_of_years year) YEAR 0) (omega arith) e in
    let year_right = passed YEAR (out_of_years year) 0 (omega arith) system_right.1 in
    record { system_inside = inside_of 1 last_system system system_right.0; year_inside = inside_of 1 3000 year year_right.0 }

pub in_scope : (system year : ℕ) → InScope system year → year_refusal system year ≡ 0
unfolding year_refusal
in_scope system year s = simp (inside 1 last_system system s.system_inside, inside 1 3000 year s.year_inside)

pub not_inside : (least most x : ℕ) → outside least most x ≡ true → Inside least most x → ⊥
not_inside least most x e h = true≢false (sym e ∙ inside least most x h)

-- A number is in its range or not.
pub by_inside : {P : Type 0} (least most x : ℕ) → (outside least most x ≡ true → (Inside least most x → ⊥) → P)
    → (outside least most x ≡ false → Inside least most x → P)
    → P
by_inside {P} least most x out into = go (outside least most x) refl
  where
    go : (b : Bool) → outside least most x ≡ b → P
    go true e = out e (not_inside least most x e)
    go false e = into e (inside_of least most x e)

pub outside_of : (least most x : ℕ) → (Inside least most x → ⊥) → outside least most x ≡ true
outside_of least most x h = by_inside least most x (λ e out. e) (λ e into. absurd (h into))

-- A number that a system has.
pub numbered : (s : System) (system : ℕ) → system_number s ≡ system → no_such_system system ≡ false
numbered Guantian system e = ap no_such_system (sym e)
numbered Jiyuan system e = ap no_such_system (sym e)
numbered Jingchu system e = ap no_such_system (sym e)

-- A request by system and year is refused SYSTEM, refused YEAR, or in scope.
pub by_scope : {P : Type 0} (system year : ℕ)
    → ((SystemInScope system → ⊥) → year_refusal system year ≡ SYSTEM → P)
    → (SystemInScope system → (YearInScope year → ⊥) → year_refusal system year ≡ YEAR → P)
    → (InScope system year → P)
    → P
unfolding year_refusal
by_scope system year no-such-system no-such-year scope =
    by_inside 1 last_system system
    (λ e outside_systems. no-such-system outside_systems (simp e))
    (λ e system_inside.
    by_inside 1 3000 year
    (λ f years_outside. no-such-year system_inside years_outside (simp (e, f)))
    (λ f year_inside. scope (record { system_inside = system_inside; year_inside = year_inside })))

-- What a request is refused, from the tests passed before.
module _ (system year : ℕ) where
  pub refused_system : no_such_system system ≡ true → SYSTEM ≡ year_refusal system year
  unfolding year_refusal
  refused_system e = simp e

  pub refused_year : no_such_system system ≡ false → out_of_years year ≡ true → YEAR ≡ year_refusal system year
  unfolding year_refusal
  refused_year e f = simp (e, f)

  pub not_refused : no_such_system system ≡ false → out_of_years year ≡ false → ◌≡◌ {A = ℕ} 0 (year_refusal system year)
  unfolding year_refusal
  not_refused e f = simp (e, f)

-- The rule for a step's number is looked at only where system and year are in scope.
module _ (most system year i : ℕ) where
  pub step_unseen : (year_refusal system year ≡ 0 → ⊥) → year_refusal system year ≡ step_refusal most system year i
  unfolding year_refusal step_refusal
  step_unseen h = either (no_such_system system) (out_of_years year) h
    where
      either : (a b : Bool) → (◌≡◌ {A = ℕ} (cond a SYSTEM (cond b YEAR 0)) 0 → ⊥)
          → ◌≡◌ {A = ℕ} (cond a SYSTEM (cond b YEAR 0)) (cond a SYSTEM (cond b YEAR (cond (ltb most i) STEP 0)))
      either true b h = refl
      either false true h = refl
      either false false h = absurd (h refl)

  pub step_seen : year_refusal system year ≡ 0 → ◌≡◌ {A = ℕ} (cond (ltb most i) STEP 0) (step_refusal most system year i)
  unfolding step_refusal
  step_seen e =
      let s = accepted system year e in
      simp (inside 1 last_system system s.system_inside, inside 1 3000 year s.year_inside)

  pub accepted_step : step_refusal most system year i ≡ 0 → InScope system year × (i ≤ most)
  unfolding step_refusal
  accepted_step e =
      let system_right =
      passed SYSTEM (no_such_system system) (cond (out_of_years year) YEAR (cond (ltb most i) STEP 0)) (omega arith) e
      in
      let year_right = passed YEAR (out_of_years year) (cond (ltb most i) STEP 0) (omega arith) system_right.1 in
      let step_right = passed STEP (ltb most i) 0 (omega arith) year_right.1 in (
        record { system_inside = inside_of 1 last_system system system_right.0; year_inside = inside_of 1 3000 year year_right.0 },
        ltb-false most i step_right.0,
      )

  pub in_scope_step : InScope system year → i ≤ most → step_refusal most system year i ≡ 0
  unfolding step_refusal
  in_scope_step s h =
      simp (inside 1 last_system system s.system_inside, inside 1 3000 year s.year_inside, le-ltb most i h)

  pub step_refused : InScope system year → most < i → step_refusal most system year i ≡ STEP
  unfolding step_refusal
  step_refused s h =
      simp (inside 1 last_system system s.system_inside, inside 1 3000 year s.year_inside, lt-ltb most i h)
