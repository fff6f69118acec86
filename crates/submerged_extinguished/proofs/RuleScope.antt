-- A system that has a rule, and a year in scope: what either request is judged by first.
use Prim.Native.Nat.{ℕ}
use mathlib.Core.Path.{◌≡◌}
use mathlib.Core.Bool.{true}
use native.Mathlib.Omega.{arith}
use Rattle.reckoning.specs.ComputedRefusals.{outside, year_refusal}
use Rattle.reckoning.specs.RefusalNumbers.{YEAR}
use Rattle.reckoning.specs.Scope.{YearInScope, InScope}
use Rattle.reckoning.proofs.RefusalCases.{by_inside, by_scope}
use Rattle.submerged_extinguished.specs.Rules.{last_rule, HasRule}

-- A request has no rule, or no year, or is in scope.
pub by_rule : {P : Type 0} (system year : ℕ)
    → ((HasRule system → ⊥) → outside 1 last_rule system ≡ true → P)
    → (HasRule system → (YearInScope year → ⊥) → year_refusal system year ≡ YEAR → P)
    → (HasRule system → InScope system year → P)
    → P
by_rule system year no_rule no_year_lem scope =
    by_inside 1 last_rule system
    (λ e none. no_rule none e)
    (λ e has.
    by_scope system year
    (λ none refusal. absurd (none (record { at_least = has.at_least; at_most = omega (arith, has.at_most) })))
    (λ s none refusal. no_year_lem has none refusal)
    (λ s. scope has s))
