-- An exported row, imported, has the day, the fraction and the count of parts that were exported.
use Prim.Native.Nat.{ℕ, ◌^◌, ◌<◌}
use mathlib.Core.Path.{◌≡◌, refl, sym, ap, ap₂, ◌∙◌}
use mathlib.Core.List.{List}
use native.Mathlib.Omega.{arith}
use lib.Ieee.{Float, binary64, fits, of_bits, to_bits}
use lib.Ieee.Bits.{of_bits-to_bits, to_bits-lt}
use lib.ListN.{length, take}
use lib.Dec.{T}
use Rattle.little_endian.proofs.ReadBack.{read_back_4, read_back_8}
use Rattle.day_fraction.specs.Fraction.{fraction_of}
use Rattle.day_fraction.specs.Settling.{settled_of}
use Rattle.std.specs.Prelude.{Some, Ok}
use Rattle.day_fraction.proofs.ComesBack.{fraction_float, fraction_of_day, comes_back}
use Rattle.day_fraction.proofs.Ends.{settled_fraction}
use Rattle.exchange.specs.declared.data.Time.TheVariants.{Fraction}
use Rattle.exchange.specs.Systems.{HasExchange, parts_in_day}
use Rattle.exchange.specs.Row.{day_field, fraction_field, row_of}
use Rattle.exchange.specs.Export.{export_refusal, exported_into}
use Rattle.exchange.specs.Import.{row_taken, answer_with, answer_of, import_of}
use Rattle.exchange.proofs.DayParts.{exchange_inside}
use Rattle.exchange.proofs.Importing.{tagged_1}
use Rattle.exchange.proofs.Exporting.{written}

day_back : (day : ℕ) (f : Float) → day < 2 ^ 32 → day_field (row_of day f) ≡ day
day_back day f small = read_back_4 day small

fraction_back : (day : ℕ) (f : Float) → T (fits binary64 f) → fraction_field (row_of day f) ≡ f
fraction_back day f float =
    ap (of_bits binary64) (read_back_8 (to_bits binary64 f) (to_bits-lt binary64 f float)) ∙ of_bits-to_bits binary64 f float

module _ (system day parts : ℕ) (has : HasExchange system) (below : parts < parts_in_day system) (small : day < 2 ^ 32) where
  abbrev D : ℕ
  D = parts_in_day system

  abbrev f : Float
  f = fraction_of D parts

  some : 0 < D
  some = (exchange_inside system has).0

  few : D < 2 ^ 16
  few = (exchange_inside system has).1

  settles : settled_of D f ≡ Some parts
  settles = sym (settled_fraction D f some (fraction_of_day D some few parts below)) ∙ ap Some (comes_back D some few parts below)

  -- "Every exported fraction comes back as its own count."
  pub row_comes_back : import_of system (row_of day f) ≡ Ok (row_taken day (Fraction f) parts)
  row_comes_back =
      sym (tagged_1 system (row_of day f) refl (λ z. omega (arith, some)) refl)
      ∙ ap₂ (λ r x. answer_of D r (Fraction x)) (day_back day f small) (fraction_back day f (fraction_float D some few parts below))
      ∙ ap (answer_with day (Fraction f)) settles

  -- So it is with the first thirteen bytes of the output, whatever the output held before.
  pub export_comes_back : (before : List ℕ) → export_refusal system parts (length before) ≡ 0
      → import_of system (take 13 (exported_into system day parts before)) ≡ Ok (row_taken day (Fraction f) parts)
  export_comes_back before accepted =
      ap (λ l. import_of system (take 13 l)) (sym (written system day parts before accepted {row = row_of day f} refl)) ∙ row_comes_back
