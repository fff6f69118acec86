-- How an export and an import can end, in the paper's words.
use Rattle.std.specs.Prelude.{ℕ, ◌+◌, ◌*◌, ◌^◌, ◌<◌, ◌≡◌, false, List, ◌++◌, length, drop, Result, Ok, Err}
use Rattle.std.specs.Float.{binary64}
use Rattle.std.specs.Float.Ieee.{round}
use Rattle.little_endian.specs.Bytes.{byte}
use Rattle.reckoning.specs.declared.refusal.Refusal.{Refusal}
use Rattle.reckoning.specs.RefusalNumbers.{number_of}
use Rattle.reckoning.specs.WordedRefusals.{FirstOf}
use Rattle.day_fraction.specs.Settling.{IsLargest}
use Rattle.exchange.specs.declared.data.Time.TheVariants.{Fraction, Parts}
use Rattle.exchange.specs.declared.data.Imported.{Imported}
use Rattle.exchange.specs.Systems.{parts_in_day}
use Rattle.exchange.specs.Row.{day_field, fraction_field, parts_field, row_of}
use Rattle.exchange.specs.ExchangeRefusals.{export_refusals, import_refusals}
use Rattle.exchange.specs.Import.{row_taken}

-- An export answers this, and leaves the output so. Refused by the first that applies, "and then writes nothing"; else the
-- fraction, the quotient of the parts by D "rounded once" and not negative (`false`), is in the row, and the answer says
-- whether small units were cut off.
pub data ExportOutcome (system day parts units : ℕ) (before : List ℕ) (answer : ℕ) (after : List ℕ) : Type 0 where
  refused : (number : ℕ)
      → 0 < number
      → FirstOf (export_refusals system parts (length before)) number
      → answer ≡ number * 2 ^ 32
      → after ≡ before
      → ExportOutcome system day parts units before answer after
  exported : FirstOf (export_refusals system parts (length before)) 0
      → (units ≡ 0 → answer ≡ 0)
      → ((units ≡ 0 → ⊥) → answer ≡ 1)
      → after ≡ row_of day (round binary64 false parts (parts_in_day system)) ++ drop 13 before
      → ExportOutcome system day parts units before answer after

-- An import answers this, and to C the number. Refused by the first that applies, with "day 0 and no time"; else "the row's
-- day is taken as it stands", and the time is answered "as it came and, beside it, the count it settles to".
pub data ImportOutcome (system : ℕ) (s : List ℕ) : Result Imported Refusal → ℕ → Type 0 where
  refused : (refusal : Refusal)
      → 0 < number_of refusal
      → FirstOf (import_refusals system s) (number_of refusal)
      → ImportOutcome system s (Err refusal) (number_of refusal * 2 ^ 32)
  fraction : FirstOf (import_refusals system s) 0
      → byte s 4 ≡ 1
      → (count : ℕ)
      → IsLargest (parts_in_day system) (fraction_field s) count
      → ImportOutcome system s (Ok (row_taken (day_field s) (Fraction (fraction_field s)) count))
      (day_field s + count * 2 ^ 40 + 1 * 2 ^ 56)
  parts : FirstOf (import_refusals system s) 0
      → byte s 4 ≡ 2
      → ImportOutcome system s (Ok (row_taken (day_field s) (Parts (parts_field s)) (parts_field s)))
      (day_field s + parts_field s * 2 ^ 40 + 2 * 2 ^ 56)
