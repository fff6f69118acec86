-- What an import answers, by the tests of the code.
use Prim.Native.Nat.{ℕ, ◌+◌, ◌*◌}
use mathlib.Core.Path.{◌≡◌, refl, sym, ap, ◌∙◌}
use mathlib.Core.Bool.{false, not}
use mathlib.Core.List.{List}
use lib.ListN.{length}
use native.Mathlib.Omega.{arith}
use borrow.Author.Tests.{eq-eqb, ne_eqb}
use lib.Ieee.{nan, binary64, nan_bits, of_bits, le}
use Rattle.reckoning.specs.declared.refusal.Refusal.TheVariants as Refused
use Rattle.std.specs.Prelude.{None, Err}
use Rattle.exchange.specs.declared.data.Time.TheVariants.{Fraction}
use Rattle.day_fraction.specs.Settling.{settled_of}
use Rattle.day_fraction.proofs.Ends.{below_zero}
use Rattle.exchange.specs.Systems.{parts_in_day}
use Rattle.exchange.specs.Row.{day_field, tag_field, pattern_field, parts_field, filler_field}
use Rattle.exchange.specs.Import.{answer_of, answer_with, fraction_answer, parts_answer, import_of}
use Rattle.exchange.proofs.Patterns.{no_number}

nan_settles : (in_day : ℕ) → None ≡ settled_of in_day nan
unfolding le
nan_settles in_day = below_zero in_day nan refl

-- The bytes of the time as one number are the parts, with the filler above them.
pub time_split : (s : List ℕ) → pattern_field s ≡ parts_field s + 65_536 * filler_field s
time_split s = omega arith

pub not_a_number : (in_day : ℕ) (s : List ℕ) {pattern : ℕ} → pattern ≡ pattern_field s
    → not (nan_bits binary64 pattern) ≡ false
    → Err Refused.Time ≡ fraction_answer in_day s
not_a_number in_day s {pattern} is h =
    ap (answer_with (day_field s) (Fraction nan)) (nan_settles in_day)
    ∙ ap (λ f. answer_of in_day (day_field s) (Fraction f)) (sym (no_number pattern h) ∙ ap (of_bits binary64) is)

module _ (system : ℕ) (s : List ℕ) where
  pub wrong_length : (length s ≡ 13 → ⊥) → Err Refused.Length ≡ import_of system s
  unfolding import_of
  wrong_length other = simp (ne_eqb (length s) 13 other)

  module _ (long : length s ≡ 13) where
    pub no_exchange : parts_in_day system ≡ 0 → Err Refused.System ≡ import_of system s
    unfolding import_of
    no_exchange none = simp (eq-eqb (length s) 13 long, eq-eqb (parts_in_day system) 0 none)

    module _ (some : parts_in_day system ≡ 0 → ⊥) where
      pub tagged_1 : tag_field s ≡ 1 → fraction_answer (parts_in_day system) s ≡ import_of system s
      unfolding import_of
      tagged_1 is =
          simp (eq-eqb (length s) 13 long, ne_eqb (parts_in_day system) 0 some, eq-eqb (tag_field s) 1 is)

      module _ (not_1 : tag_field s ≡ 1 → ⊥) where
        pub tagged_2 : tag_field s ≡ 2 → parts_answer (parts_in_day system) s ≡ import_of system s
        unfolding import_of
        tagged_2 is =
            simp (eq-eqb (length s) 13 long, ne_eqb (parts_in_day system) 0 some, ne_eqb (tag_field s) 1 not_1, eq-eqb (tag_field s) 2 is)

        pub no_tag : (tag_field s ≡ 2 → ⊥) → Err Refused.Kind ≡ import_of system s
        unfolding import_of
        no_tag not-2 =
            simp (eq-eqb (length s) 13 long, ne_eqb (parts_in_day system) 0 some, ne_eqb (tag_field s) 1 not_1, ne_eqb (tag_field s) 2 not-2)
