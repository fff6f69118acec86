-- When each numbered refusal of an export or an import applies: paper 02, Q-11, in its order.
use Rattle.std.specs.Prelude.{ℕ, ◌≤◌, ◌<◌, ◌≡◌, ◌⊎◌, List, [], ◌∷◌, length}
use Rattle.little_endian.specs.Bytes.{byte}
use Rattle.reckoning.specs.RefusalNumbers.{KIND, LENGTH, SYSTEM, OUTPUT, TIME}
use Rattle.reckoning.specs.WordedRefusals.{Row, ◌when◌}
use Rattle.day_fraction.specs.Settling.{NoFraction}
use Rattle.exchange.specs.Systems.{parts_in_day}
use Rattle.exchange.specs.Row.{fraction_field, parts_field}

-- "A system other than 1 and 2, parts not below D, an output below 13 bytes."
abbrev pub export_refusals : ℕ → ℕ → ℕ → List Row
export_refusals system parts room =
    SYSTEM when ((system ≡ 1) ⊎ (system ≡ 2) → ⊥) ∷ TIME when (parts_in_day system ≤ parts) ∷ OUTPUT when (room < 13) ∷ []

-- "Six zero bytes" after the parts.
abbrev pub ZeroFiller : List ℕ → Type 0
ZeroFiller s =
    (byte s 7 ≡ 0) × (byte s 8 ≡ 0) × (byte s 9 ≡ 0) × (byte s 10 ≡ 0) × (byte s 11 ≡ 0) × (byte s 12 ≡ 0)

-- "Refusal 12 for a fraction that is not a number, below zero or not below one, parts not below D, or nonzero filler."
abbrev pub WrongTime : ℕ → List ℕ → Type 0
WrongTime in_day s =
    ((byte s 4 ≡ 1) × NoFraction (fraction_field s))
    ⊎ ((byte s 4 ≡ 2) × ((in_day ≤ parts_field s) ⊎ (ZeroFiller s → ⊥)))

-- "Wrong row length 3, system not 1 or 2 refused 4, tag neither 1 nor 2 refused 2, and refusal 12."
abbrev pub import_refusals : ℕ → List ℕ → List Row
import_refusals system s =
    LENGTH when (length s ≡ 13 → ⊥)
    ∷ SYSTEM when ((system ≡ 1) ⊎ (system ≡ 2) → ⊥)
    ∷ KIND when ((byte s 4 ≡ 1) ⊎ (byte s 4 ≡ 2) → ⊥)
    ∷ TIME when WrongTime (parts_in_day system) s
    ∷ []
