-- Years in scope keep the bounds, checked for each system by computing.
use Prim.Native.Nat.{ℕ}
use native.Mathlib.Omega.{arith}
use Rattle.calendar.specs.Systems.{constants_of, years_elapsed}
use Rattle.calendar.proofs.EachSystem.{each_system}
use Rattle.reckoning.specs.WordBounds.{ConstantsFit, YearInRegister, YearsInRegister}
use Rattle.reckoning.specs.Scope.{YearInScope}

pub year_in_register : (system year : ℕ) → YearInScope year → YearInRegister (constants_of system) (years_elapsed (constants_of system) year)
year_in_register system year h =
    each_system (λ c. YearInRegister c (years_elapsed c year)) (omega arith, (omega arith, (omega arith, tt))) system

pub constants_fit : (system : ℕ) → ConstantsFit (constants_of system)
constants_fit system = (year_in_register system 1 (omega arith)).constants_fit

pub years_in_register : (system : ℕ) → YearsInRegister (constants_of system)
years_in_register system = record { constants_fit = constants_fit system; in_register = year_in_register system }
