-- What is told of a result: the cases of a proof by which it came, and what a caller learns of either.
use Prim.Native.Nat.{ℕ, ◌<◌}
use mathlib.Core.Path.{◌≡◌, refl, ap, ◌∙◌}
use native.Mathlib.Omega.{arith}
use Rattle.std.proofs.Common.{Option, Result, Err}
use Rattle.calendar.specs.declared.data.Constants.{Constants}
use Rattle.calendar.specs.Systems.{last_system, constants_of}
use Rattle.reckoning.specs.declared.refusal.Refusal.{Refusal}
use Rattle.reckoning.specs.declared.refusal.Refusal.TheVariants.{Short, Kind, Length, System, Year, Month, Day, Output, Step, NotLeap, Retired, Time}
use Rattle.reckoning.specs.Scope.{SystemInScope}
use Rattle.reckoning.specs.RefusalNumbers.{SYSTEM, LEAP, number_of}
use Rattle.reckoning.specs.Requests.{answer_of_system}
use Rattle.reckoning.proofs.RefusalCases.{by_inside}

-- No refusal has number 0.
pub number_some : (r : Refusal) → 0 < number_of r
number_some Short = omega arith
number_some Kind = omega arith
number_some Length = omega arith
number_some System = omega arith
number_some Year = omega arith
number_some Month = omega arith
number_some Day = omega arith
number_some Output = omega arith
number_some Step = omega arith
number_some (NotLeap month) = omega arith
number_some Retired = omega arith
number_some Time = omega arith

pub number_not_0 : (r : Refusal) → number_of r ≡ 0 → ⊥
number_not_0 r z = omega (arith, number_some r)

-- One whose number is LEAP tells a leap month.
pub leap_tells : (r : Refusal) → ((month : Option ℕ) → r ≡ NotLeap month → ⊥) → number_of r ≡ LEAP → ⊥
leap_tells Short other e = omega arith
leap_tells Kind other e = omega arith
leap_tells Length other e = omega arith
leap_tells System other e = omega arith
leap_tells Year other e = omega arith
leap_tells Month other e = omega arith
leap_tells Day other e = omega arith
leap_tells Output other e = omega arith
leap_tells Step other e = omega arith
leap_tells (NotLeap month) other e = other month refl
leap_tells Retired other e = omega arith
leap_tells Time other e = omega arith

-- A request by system: refused, or answered by the system's constants.
pub by_system : {A B : Type 0} (told : Result A Refusal → B) (answer : Constants → B) (blank : ℕ → B) (system : ℕ)
    {r : Result A Refusal}
    → told (Err System) ≡ blank SYSTEM
    → ((SystemInScope system → ⊥) → r ≡ Err System)
    → (SystemInScope system → told r ≡ answer (constants_of system))
    → told r ≡ answer_of_system system answer blank
by_system told answer blank system e refused answered =
    by_inside 1 last_system system
    (λ out none. ap told (refused none) ∙ e ∙ simp out)
    (λ inside some. answered some ∙ simp inside)
