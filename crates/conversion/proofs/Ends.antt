-- Records in their place, and how a conversion ends.
use Prim.Native.Nat.{ℕ, ◌+◌, ◌*◌, ◌^◌, ◌≤◌, ◌<◌}
use mathlib.Core.Path.{◌≡◌, refl, ap, ap₂, sym, ◌∙◌}
use mathlib.Core.Bool.{cond}
use mathlib.Core.List.{List, [], ◌∷◌, ◌++◌, append-nil}
use native.Mathlib.Omega.{arith}
use lib.Dec.{eqb}
use lib.ListN.{length, set, drop, length-set, drop_of_length-le}
use borrow.Author.Tests.{eq-eqb, ne_eqb, lt-ltb, le-ltb, le-leb}
use Rattle.std.specs.Prelude.{Result, Ok, Err}
use Rattle.std.specs.Result.{result_err}
use Rattle.calendar.proofs.Cases.{by_bool}
use Rattle.reckoning.specs.declared.refusal.Refusal.{Refusal}
use Rattle.reckoning.specs.RefusalNumbers.{KIND, OUTPUT}
use Rattle.reckoning.specs.Told.{told_refusal}
use Rattle.little_endian.specs.Bytes.{byte}
use Rattle.citation.specs.Record.{name_field}
use Rattle.citation.specs.Output.{record_into}
use Rattle.citation.proofs.TenBytes.{elements, elements_all}
use Rattle.conversion.specs.Conversion.{conversion_refusal, refusal_into, converted, conversion_answer, converted_into, renewed, left_with}
use Rattle.conversion.specs.Told.{told_left}
use Rattle.conversion.proofs.Cases.{Convertible, accepted}

-- A record in its place.
module _ (s : List ℕ) where
  pub raised_bytes : Convertible s
      → 10 ∷ 0 ∷ 5 ∷ 0 ∷ byte s 4 ∷ byte s 5 ∷ byte s 6 ∷ byte s 7 ∷ byte s 8 ∷ (byte s 9 + 1) ∷ [] ≡ converted s
  unfolding elements
  raised_bytes old =
      let field = old.field in
      let two = old.two in
      let b0 : 10 ≡ byte s 0 = omega arith in
      let b1 : 0 ≡ byte s 1 = omega arith in
      let b3 : 0 ≡ byte s 3 = omega arith in
      (λ i. b0 i ∷ b1 i ∷ 5 ∷ b3 i ∷ byte s 4 ∷ byte s 5 ∷ byte s 6 ∷ byte s 7 ∷ byte s 8 ∷ (byte s 9 + 1) ∷ [])
      ∙ ap converted (sym (elements_all s 10 (sym old.long)))

  -- put into its own place
  pub renewed_in_place : {bytes : List ℕ} → conversion_refusal s ≡ 0 → bytes ≡ converted s → record_into bytes s ≡ renewed s
  unfolding record_into renewed
  renewed_in_place z is =
      let long = (accepted s z).long in
      ap₂ (λ b r. cond b (r ++ drop 10 s) s) (le-leb 10 (length s) (omega arith)) is
      ∙ ap (λ r. converted s ++ r) (drop_of_length-le s {i = 10} (omega arith))
      ∙ append-nil (converted s)
      ∙ ap (λ b. cond b (converted s) s) (sym (eq-eqb (conversion_refusal s) 0 z))

  pub renewed_left : (conversion_refusal s ≡ 0 → ⊥) → s ≡ renewed s
  unfolding renewed
  renewed_left some = simp (ne_eqb (conversion_refusal s) 0 some)

  pub left_with_lem : (conversion_refusal s ≡ KIND → ⊥) → conversion_refusal s ≡ left_with s
  unfolding left_with
  left_with_lem other = simp (ne_eqb (conversion_refusal s) KIND other)

  pub left_another : conversion_refusal s ≡ KIND → 0 ≡ left_with s
  unfolding left_with
  left_another e = simp (eq-eqb (conversion_refusal s) KIND e)

  pub converted_length : length (converted s) ≡ length s
  converted_length = length-set (set s 2 5) 9 (name_field s + 1) ∙ length-set s 2 5

  -- it is as long as it was
  pub renewed_length : length (renewed s) ≡ length s
  unfolding renewed
  renewed_length =
      by_bool (eqb (conversion_refusal s) 0)
      (λ e. ap (λ b. length (cond b (converted s) s)) e ∙ converted_length)
      (λ e. ap (λ b. length (cond b (converted s) s)) e)

-- The refusal of a record that is left, told as the one by which it is not converted.
pub told_err : {A : Type 0} (r : Result A Refusal) → told_left (result_err r) ≡ told_refusal r
told_err (Ok a) = refl
told_err (Err e) = refl

-- A conversion's own refusal stands, then that of its output.
module _ (s : List ℕ) (room : ℕ) where
  pub refusal_kept : (conversion_refusal s ≡ 0 → ⊥) → refusal_into s room ≡ conversion_refusal s
  unfolding refusal_into
  refusal_kept some = simp (ne_eqb (conversion_refusal s) 0 some)

  pub refusal_output : conversion_refusal s ≡ 0 → room < 10 → refusal_into s room ≡ OUTPUT
  unfolding refusal_into
  refusal_output z h = simp (eq-eqb (conversion_refusal s) 0 z, lt-ltb room 10 h)

  pub refusal_none : conversion_refusal s ≡ 0 → 10 ≤ room → refusal_into s room ≡ 0
  unfolding refusal_into
  refusal_none z h = simp (eq-eqb (conversion_refusal s) 0 z, le-ltb room 10 h)

-- Refused with a number: the answer, and the output as it was;
pub record Refused (s before : List ℕ) (number : ℕ) : Type 0 where
  pub answer : number * 2 ^ 32 ≡ conversion_answer s (length before)
  pub output : before ≡ converted_into s before

module _ (s before : List ℕ) where
  pub refused_by : (number : ℕ) → refusal_into s (length before) ≡ number → (number ≡ 0 → ⊥) → Refused s before number
  unfolding converted_into
  refused_by number is some =
      record {
        answer = omega arith;
        output =
            ap (λ b. cond b (converted s ++ drop 10 before) before)
            (sym (ne_eqb (refusal_into s (length before)) 0 (λ z. some (sym is ∙ z))));
      }

  pub refused : {number : ℕ} → number ≡ conversion_refusal s → (number ≡ 0 → ⊥) → Refused s before number
  refused {number} is some =
      refused_by number (refusal_kept s (length before) (λ z. some (is ∙ z)) ∙ sym is) some

  pub no_room : conversion_refusal s ≡ 0 → length before < 10 → Refused s before OUTPUT
  no_room z h = refused_by OUTPUT (refusal_output s (length before) z h) (λ e. omega arith)

  -- or converted.
  pub answered : conversion_refusal s ≡ 0 → 10 ≤ length before → 0 ≡ conversion_answer s (length before)
  answered z h = omega (arith, refusal_none s (length before) z h)

  pub written : {bytes : List ℕ} → conversion_refusal s ≡ 0 → 10 ≤ length before → bytes ≡ converted s
      → bytes ++ drop 10 before ≡ converted_into s before
  unfolding converted_into
  written z h is =
      ap₂ (λ r b. cond b (r ++ drop 10 before) before) is (sym (eq-eqb (refusal_into s (length before)) 0 (refusal_none s (length before) z h)))
