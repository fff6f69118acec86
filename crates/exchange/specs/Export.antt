-- What an export answers and writes, for every input and output.
use Rattle.std.specs.Prelude.{ℕ, ◌+◌, ◌*◌, ◌^◌, Bool, cond, not, ◌&&◌, List, [], ◌∷◌, ◌++◌, ltb, leb, eqb, length, drop, Result}
use Rattle.reckoning.specs.ComputedRefusals.{◌if◌, first}
use Rattle.reckoning.specs.declared.refusal.Refusal.{Refusal}
use Rattle.reckoning.specs.RefusalNumbers.{SYSTEM, TIME, OUTPUT, number_of}
use Rattle.reckoning.specs.Told.{told}
use Rattle.day_fraction.specs.Fraction.{fraction_of}
use Rattle.exchange.specs.Systems.{parts_in_day}
use Rattle.exchange.specs.Row.{row_of}

-- Refused SYSTEM, then TIME for parts not below D, then OUTPUT for an output below 13 bytes; 0 where none applies.
unfoldable pub export_refusal : ℕ → ℕ → ℕ → ℕ
export_refusal system parts room =
    first
    ((SYSTEM if eqb (parts_in_day system) 0) ∷ (TIME if leb (parts_in_day system) parts) ∷ (OUTPUT if ltb room 13) ∷ [])

abbrev pub is_exported : ℕ → ℕ → ℕ → Bool
is_exported system parts room = eqb (export_refusal system parts room) 0

-- The answer: 2^32 times the refusal number, plus 1 where small units were cut off.
unfoldable pub export_answer : ℕ → ℕ → ℕ → ℕ → ℕ
export_answer system parts units room =
    2 ^ 32 * export_refusal system parts room + cond (is_exported system parts room && not (eqb units 0)) 1 0

-- How it tells what the code returns: whether small units were cut off, or a refusal.
abbrev pub export_told : Result Bool Refusal → ℕ
export_told r = told (λ cut. cond cut 1 0) (λ e. 2 ^ 32 * number_of e) r

-- The output afterwards: the row in the first 13 bytes and the rest left; where refused, as it was.
unfoldable pub exported_into : ℕ → ℕ → ℕ → List ℕ → List ℕ
exported_into system day parts before =
    cond (is_exported system parts (length before)) (row_of day (fraction_of (parts_in_day system) parts) ++ drop 13 before) before
