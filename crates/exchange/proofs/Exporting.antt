-- What an export answers and writes, by the tests of the code.
use Prim.Native.Nat.{ℕ, ◌*◌, ◌^◌, ◌≤◌, ◌<◌}
use mathlib.Core.Path.{◌≡◌, sym, ap, ◌∙◌}
use mathlib.Core.Bool.{not, cond}
use mathlib.Core.List.{List, ◌++◌}
use native.Mathlib.Omega.{arith}
use native.Mathlib.Decide.{ℕ_discrete}
use lib.Dec.{eqb}
use lib.ListN.{length, drop}
use borrow.Author.Tests.{lt-ltb, le-ltb, le-leb, lt-leb, eq-eqb, ne_eqb}
use Rattle.reckoning.specs.RefusalNumbers.{SYSTEM, TIME, OUTPUT}
use Rattle.day_fraction.specs.Fraction.{fraction_of}
use Rattle.exchange.specs.Systems.{parts_in_day}
use Rattle.exchange.specs.Row.{row_of}
use Rattle.exchange.specs.Export.{export_refusal, export_answer, exported_into}

-- The refusal.
module _ (system parts room : ℕ) where
  pub no_exchange : parts_in_day system ≡ 0 → export_refusal system parts room ≡ SYSTEM
  unfolding export_refusal
  no_exchange none = simp (eq-eqb (parts_in_day system) 0 none)

  module _ (some : 0 < parts_in_day system) where
    pub no_time : parts_in_day system ≤ parts → export_refusal system parts room ≡ TIME
    unfolding export_refusal
    no_time h = simp (ne_eqb (parts_in_day system) 0 (λ z. omega arith), le-leb (parts_in_day system) parts h)

    module _ (below : parts < parts_in_day system) where
      pub no_room : room < 13 → export_refusal system parts room ≡ OUTPUT
      unfolding export_refusal
      no_room h = simp (ne_eqb (parts_in_day system) 0 (λ z. omega arith), lt-leb (parts_in_day system) parts below, lt-ltb room 13 h)

      pub none : 13 ≤ room → export_refusal system parts room ≡ 0
      unfolding export_refusal
      none h = simp (ne_eqb (parts_in_day system) 0 (λ z. omega arith), lt-leb (parts_in_day system) parts below, le-ltb room 13 h)

-- What is answered with it,
module _ (system parts units room : ℕ) where
  abbrev refusal : ℕ
  refusal = export_refusal system parts room

  pub whole_parts : refusal ≡ 0 → units ≡ 0 → 0 ≡ export_answer system parts units room
  unfolding export_answer
  whole_parts accepted none = simp (eq-eqb refusal 0 accepted, eq-eqb units 0 none) (omega (arith, accepted))

  pub units_cut : refusal ≡ 0 → (units ≡ 0 → ⊥) → 1 ≡ export_answer system parts units room
  unfolding export_answer
  units_cut accepted some = simp (eq-eqb refusal 0 accepted, ne_eqb units 0 some) (omega (arith, accepted))

  pub cut_told : refusal ≡ 0 → cond (not (eqb units 0)) 1 0 ≡ export_answer system parts units room
  cut_told accepted =
      elim (ℕ_discrete units 0) [
        | yes none_lem ↦ simp (eq-eqb units 0 none_lem) (whole_parts accepted none_lem)
        | no some ↦ simp (ne_eqb units 0 some) (units_cut accepted some)
      ]

  told : (number : ℕ) → refusal ≡ number → (number ≡ 0 → ⊥) → 2 ^ 32 * number ≡ export_answer system parts units room
  unfolding export_answer
  told number is some = simp (ne_eqb refusal 0 (λ z. some (sym is ∙ z))) (omega (arith, is))

-- and written.
module _ (system day parts : ℕ) (before : List ℕ) where
  abbrev refusal_here : ℕ
  refusal_here = export_refusal system parts (length before)

  left_alone : (refusal_here ≡ 0 → ⊥) → before ≡ exported_into system day parts before
  unfolding exported_into
  left_alone some = simp (ne_eqb refusal_here 0 some)

  pub written : refusal_here ≡ 0 → {row : List ℕ} → row ≡ row_of day (fraction_of (parts_in_day system) parts)
      → row ++ drop 13 before ≡ exported_into system day parts before
  unfolding exported_into
  written accepted is =
      ap (λ r. r ++ drop 13 before) is ∙ simp (eq-eqb refusal_here 0 accepted)

pub refused : (system day parts units : ℕ) (before : List ℕ) (number : ℕ) → export_refusal system parts (length before) ≡ number
    → (number ≡ 0 → ⊥)
    → (2 ^ 32 * number ≡ export_answer system parts units (length before)) × (before ≡ exported_into system day parts before)
refused system day parts units before number is some =
    (told system parts units (length before) number is some, left_alone system day parts before (λ z. some (sym is ∙ z)))
