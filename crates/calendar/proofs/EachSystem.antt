-- The list, checked for each system by computing.
use Prim.Native.Nat.{ℕ, zero, suc, ◌+◌, ◌-◌}
use mathlib.Core.Path.{◌≡◌}
use mathlib.Core.List.{List, [], ◌∷◌}
use lib.ListN.{get_or}
use native.Mathlib.Omega.{arith}
use Rattle.calendar.specs.declared.data.Constants.{Constants}
use Rattle.calendar.specs.Systems.{systems, guantian, constants_of, years_elapsed}
use Rattle.calendar.specs.Consistent.{Consistent}

-- Each of a list of constants has a property.
abbrev pub Each : (Constants → Type 0) → List Constants → Type 0
Each P [] = Unit {0}
Each P (c ∷ cs) = P c × Each P cs

each_at : (P : Constants → Type 0) (cs : List Constants) (other : Constants) → P other → Each P cs → (i : ℕ) → P (get_or cs i other)
each_at P [] other p each i = p
each_at P (c ∷ cs) other p each zero = each.0
each_at P (c ∷ cs) other p each (suc i) = each_at P cs other p each.1 i

-- What holds of each system's constants holds of those that a system's number picks.
pub each_system : (P : Constants → Type 0) → Each P systems → (system : ℕ) → P (constants_of system)
each_system P each system = each_at P systems guantian each.0 each (system - 1)

pub consistent : (system : ℕ) → Consistent (constants_of system)
consistent = each_system Consistent (omega arith)

-- A year later the count is one more (002 prints two).
pub one_a_year : (c : Constants) → Consistent c → (a : ℕ) → years_elapsed c (a + 1) ≡ years_elapsed c a + 1
one_a_year c ok a = omega (arith, ok.epoch_before)
