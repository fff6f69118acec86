-- The laws of the conversion.
use Prim.Native.Nat.{ℕ, ◌+◌, ◌≤◌}
use mathlib.Core.Path.{◌≡◌, refl, ap, sym, ◌∙◌}
use mathlib.Core.Logic.{inl, inr}
use mathlib.Core.List.{List, [], ◌∷◌, ◌++◌}
use native.Mathlib.Omega.{arith}
use lib.ListN.{length, set, take, drop, length-set}
use lib.Seq.{get_or-set_same, get_or-set_other, take_at, drop_at}
use Rattle.calendar.proofs.Rising.{by_order}
use Rattle.reckoning.specs.RefusalNumbers.{KIND}
use Rattle.reckoning.specs.WordedRefusals.{FirstOf}
use Rattle.little_endian.specs.Bytes.{byte}
use Rattle.citation.specs.Record.{kind_of, name_field}
use Rattle.citation.proofs.JudgementCases.{by_equal}
use Rattle.citation.proofs.RowLaws.{first_unique}
use Rattle.citation.proofs.TenBytes.{elements, elements_all}
use Rattle.conversion.specs.Conversion.{conversion_rows, conversion_refusal, refusal_into, converted, converted_into}
use Rattle.conversion.proofs.Cases.{Convertible, by_refusal, accepted, another_kind}
use Rattle.conversion.proofs.Ends.{refusal_kept, refusal_output, refusal_none, refused_by, written, converted_length}

-- Whatever the bytes, the conversion gives the first refusal of its table that applies, and 0 where none does;
pub refusal_is_the_first : (s : List ℕ) (room : ℕ) → FirstOf (conversion_rows s room) (refusal_into s room)
refusal_is_the_first s room =
    by_refusal s
    (λ h e. inl (given e (λ z. omega arith), h))
    (λ h other e. inr (λ v. omega arith, inl (given e (λ z. omega arith), other)))
    (λ h two wrong e. inr (λ v. omega arith, inr (λ v. v two, inl (given e (λ z. omega arith), wrong))))
    (λ h two right far e. inr (λ v. omega arith, inr (λ v. v two, inr (right, inl (given e (λ z. omega arith), far)))))
    (λ old right e.
    inr (
      λ v. omega (arith, old.long),
      inr (
        λ v. v old.two,
        inr (
          right,
          inr (
            λ far. omega (arith, old.name),
            by_order room 10
                (λ h. inl (refusal_output s room (sym e) h, h))
                (λ h. inr (λ v. omega arith, refusal_none s room (sym e) h)),
          ),
        ),
      ),
    ))
  where
    given : {number : ℕ} → number ≡ conversion_refusal s → (number ≡ 0 → ⊥) → refusal_into s room ≡ number
    given e some = refusal_kept s room (λ z. some (e ∙ z)) ∙ sym e

-- and no other number.
pub no_other_refusal : (s : List ℕ) (room number : ℕ) → FirstOf (conversion_rows s room) number → number ≡ refusal_into s room
no_other_refusal s room number p = first_unique (conversion_rows s room) number (refusal_into s room) p (refusal_is_the_first s room)

-- Refused, it leaves the output as it was;
pub refused_changes_nothing : (s before : List ℕ) → (refusal_into s (length before) ≡ 0 → ⊥) → before ≡ converted_into s before
refused_changes_nothing s before some = (refused_by s before (refusal_into s (length before)) refl some).output

-- else the converted record is in front, and the rest as it was.
module _ (s before : List ℕ) (none : refusal_into s (length before) ≡ 0) where
  accepted_with_room : (conversion_refusal s ≡ 0) × (10 ≤ length before)
  accepted_with_room =
      by_equal (conversion_refusal s) 0
      (λ z. (z, by_order (length before) 10 (λ h. absurd (omega (arith, refusal_output s (length before) z h))) (λ h. h)))
      (λ some. absurd (some (sym (refusal_kept s (length before) some) ∙ none)))

  whole_output : converted s ++ drop 10 before ≡ converted_into s before
  whole_output = written s before accepted_with_room.0 accepted_with_room.1 refl

  ten_long : length (converted s) ≡ 10
  ten_long = converted_length s ∙ (accepted s accepted_with_room.0).long

  pub converted_in_front : take 10 (converted_into s before) ≡ converted s
  converted_in_front = ap (take 10) (sym whole_output) ∙ take_at (converted s) (drop 10 before) 10 ten_long

  pub leaves_the_rest : drop 10 (converted_into s before) ≡ drop 10 before
  leaves_the_rest = ap (drop 10) (sym whole_output) ∙ drop_at (converted s) (drop 10 before) 10 ten_long

-- The bytes of a converted record.
module _ (s : List ℕ) where
  pub same_byte : (i : ℕ) → (i ≡ 2 → ⊥) → (i ≡ 9 → ⊥) → byte (converted s) i ≡ byte s i
  same_byte i not_two not-nine =
      get_or-set_other (set s 2 5) 9 i (name_field s + 1) 0 not-nine ∙ get_or-set_other s 2 i 5 0 not_two

  new_name : Convertible s → name_field (converted s) ≡ name_field s + 1
  new_name old = get_or-set_same (set s 2 5) 9 (name_field s + 1) 0 (omega (arith, length-set s 2 5, old.long))

  new_kind : Convertible s → kind_of (converted s) ≡ 5
  new_kind old =
      let low : byte (converted s) 2 ≡ 5 =
      get_or-set_other (set s 2 5) 9 2 (name_field s + 1) 0 (λ e. omega arith) ∙ get_or-set_same s 2 5 0 (omega (arith, old.long))
      in
      omega (arith, low, same_byte 3 (λ e. omega arith) (λ e. omega arith), old.two)

-- Records that are converted alike were alike.
pub converted_alike : (s t : List ℕ) → conversion_refusal s ≡ 0 → conversion_refusal t ≡ 0 → converted s ≡ converted t → s ≡ t
unfolding elements
converted_alike s t a b e =
    let old = accepted s a in
    let other = accepted t b in
    let b0 = same 0 (λ z. omega arith) (λ z. omega arith) in
    let b1 = same 1 (λ z. omega arith) (λ z. omega arith) in
    let b3 = same 3 (λ z. omega arith) (λ z. omega arith) in
    let b2 : byte s 2 ≡ byte t 2 = omega (arith, old.two, other.two, b3) in
    let b4 = same 4 (λ z. omega arith) (λ z. omega arith) in
    let b5 = same 5 (λ z. omega arith) (λ z. omega arith) in
    let b6 = same 6 (λ z. omega arith) (λ z. omega arith) in
    let b7 = same 7 (λ z. omega arith) (λ z. omega arith) in
    let b8 = same 8 (λ z. omega arith) (λ z. omega arith) in
    let b9 : byte s 9 ≡ byte t 9 = omega (arith, new_name s old, new_name t other, ap name_field e) in
    elements_all s 10 (sym old.long)
    ∙ (λ i. b0 i ∷ b1 i ∷ b2 i ∷ b3 i ∷ b4 i ∷ b5 i ∷ b6 i ∷ b7 i ∷ b8 i ∷ b9 i ∷ [])
    ∙ sym (elements_all t 10 (sym other.long))
  where
    same : (i : ℕ) → (i ≡ 2 → ⊥) → (i ≡ 9 → ⊥) → byte s i ≡ byte t i
    same i not_two not-nine =
        sym (same_byte s i not_two not-nine) ∙ ap (λ l. byte l i) e ∙ same_byte t i not_two not-nine

-- A converted record is of another kind, and refused so.
pub converted_again : (s : List ℕ) → conversion_refusal s ≡ 0 → conversion_refusal (converted s) ≡ KIND
converted_again s a =
    let old = accepted s a in
    sym (another_kind (converted s) (omega (arith, converted_length s, old.long)) (λ two. omega (arith, new_kind s old)))
