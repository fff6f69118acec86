-- The cases of a conversion's refusal, in their order.
use Prim.Native.Nat.{ℕ, ◌≤◌, ◌<◌}
use mathlib.Core.Path.{◌≡◌, ap, sym, ◌∙◌}
use mathlib.Core.Bool.{false, true≢false, not}
use mathlib.Core.List.{List}
use native.Mathlib.Omega.{arith}
use lib.Dec.{ltb, eqb}
use lib.ListN.{length}
use borrow.Author.Tests.{eq-eqb, ne_eqb, lt-ltb, le-ltb}
use Rattle.calendar.proofs.Rising.{by_order}
use Rattle.reckoning.specs.RefusalNumbers.{SHORT, KIND, LENGTH, DAY}
use Rattle.citation.specs.Record.{length_field, kind_of, name_field, kind_length}
use Rattle.citation.specs.CitationRefusals.{WrongLength}
use Rattle.citation.specs.Store.{length_right}
use Rattle.citation.proofs.JudgementCases.{by_equal}
use Rattle.citation.proofs.WholeRecord.{by_length}
use Rattle.conversion.specs.Conversion.{conversion_refusal}

-- A record of kind 2 that is converted.
pub record Convertible (s : List ℕ) : Type 0 where
  pub field : length_field s ≡ 10
  pub long : length s ≡ 10
  pub two : kind_of s ≡ 2
  pub name : name_field s ≤ 59

module _ (s : List ℕ) where
  pub too_short : length s < 4 → SHORT ≡ conversion_refusal s
  unfolding conversion_refusal
  too_short h = simp (lt-ltb (length s) 4 h)

  module _ (long : 4 ≤ length s) where
    pub another_kind : (kind_of s ≡ 2 → ⊥) → KIND ≡ conversion_refusal s
    unfolding conversion_refusal
    another_kind other = simp (le-ltb (length s) 4 long, ne_eqb (kind_of s) 2 other)

    module _ (two : kind_of s ≡ 2) where
      ten : kind_length (kind_of s) ≡ 10
      ten = ap kind_length two

      length_refused : length_right s ≡ false → LENGTH ≡ conversion_refusal s
      unfolding conversion_refusal
      length_refused l = simp (le-ltb (length s) 4 long, eq-eqb (kind_of s) 2 two, l)

      pub wrong_length : (length_field s ≡ 10 → length s ≡ 10 → ⊥) → LENGTH ≡ conversion_refusal s
      wrong_length other =
          by_length s
          (λ l wrong. length_refused l)
          (λ l right. absurd (other (right.0 ∙ ten) (right.1 ∙ right.0 ∙ ten)))

      module _ (field : length_field s ≡ 10) (own : length s ≡ 10) where
        pub no_such_name : 59 < name_field s → DAY ≡ conversion_refusal s
        unfolding conversion_refusal
        no_such_name h =
            by_length s
            (λ l wrong. absurd (wrong (field ∙ sym ten, own ∙ sym field)))
            (λ l right. simp (le-ltb (length s) 4 long, eq-eqb (kind_of s) 2 two, l, lt-ltb 59 (name_field s) h))

        pub none : name_field s ≤ 59 → 0 ≡ conversion_refusal s
        unfolding conversion_refusal
        none h =
            by_length s
            (λ l wrong. absurd (wrong (field ∙ sym ten, own ∙ sym field)))
            (λ l right. simp (le-ltb (length s) 4 long, eq-eqb (kind_of s) 2 two, l, le-ltb 59 (name_field s) h))

-- Which of them applies.
pub by_refusal : {P : Type 0} (s : List ℕ) → (length s < 4 → SHORT ≡ conversion_refusal s → P)
    → (4 ≤ length s → (kind_of s ≡ 2 → ⊥) → KIND ≡ conversion_refusal s → P)
    → (4 ≤ length s → kind_of s ≡ 2 → WrongLength s → LENGTH ≡ conversion_refusal s → P)
    → (4 ≤ length s → kind_of s ≡ 2 → (WrongLength s → ⊥) → 59 < name_field s → DAY ≡ conversion_refusal s → P)
    → (Convertible s → (WrongLength s → ⊥) → 0 ≡ conversion_refusal s → P)
    → P
by_refusal s a b c d e =
    by_order (length s) 4
    (λ h. a h (too_short s h))
    (λ h.
    by_equal (kind_of s) 2
    (λ two.
    by_length s
    (λ l wrong. c h two wrong (length_refused s h two l))
    (λ l right.
    let field = right.0 ∙ ap kind_length two in
    let long = right.1 ∙ field in
    by_order 59 (name_field s)
    (λ far. d h two (λ w. w right) far (no_such_name s h two field long far))
    (λ near.
    e (record { field = field; long = long; two = two; name = near }) (λ w. w right) (none s h two field long near))))
    (λ other. b h other (another_kind s h other)))

-- A record that is accepted.
pub accepted : (s : List ℕ) → conversion_refusal s ≡ 0 → Convertible s
accepted s z =
    by_refusal s
    (λ h e. absurd (omega arith))
    (λ h other e. absurd (omega arith))
    (λ h two wrong e. absurd (omega arith))
    (λ h two right far e. absurd (omega arith))
    (λ old right e. old)

-- Whether it is.
module _ (s : List ℕ) where
  pub is_not : (Convertible s → ⊥) → false ≡ eqb (conversion_refusal s) 0
  is_not never = sym (ne_eqb (conversion_refusal s) 0 (λ z. never (accepted s z)))

  pub is_by_name : length_field s ≡ 10 → length s ≡ 10 → kind_of s ≡ 2 → ltb (name_field s) 60 ≡ eqb (conversion_refusal s) 0
  is_by_name field long two =
      by_order 59 (name_field s)
      (λ far. le-ltb (name_field s) 60 far ∙ is_not (λ old. omega (arith, old.name)))
      (λ near.
      lt-ltb (name_field s) 60 (omega arith) ∙ sym (eq-eqb (conversion_refusal s) 0 (sym (none s (omega arith) two field long near))))

  -- one that is not, and has all but the name
  pub name_refused : eqb (conversion_refusal s) 0 ≡ false → length_field s ≡ 10 → length s ≡ 10 → kind_of s ≡ 2 → DAY ≡ conversion_refusal s
  name_refused other field long two =
      by_order 59 (name_field s)
      (no_such_name s (omega arith) two field long)
      (λ near.
      let z = sym (none s (omega arith) two field long near) in
      absurd (true≢false (sym (eq-eqb (conversion_refusal s) 0 z) ∙ other)))

-- Whether it is of another kind.
module _ (s : List ℕ) where
  kind_two : kind_of s ≡ 2 → conversion_refusal s ≡ KIND → ⊥
  kind_two two e =
      by_refusal s
      (λ h short. omega arith)
      (λ h other kind. other two)
      (λ h two wrong length. omega arith)
      (λ h two right far day. omega arith)
      (λ old right none. omega arith)

  pub short_not_another : length s < 4 → false ≡ eqb (conversion_refusal s) KIND
  short_not_another h = sym (ne_eqb (conversion_refusal s) KIND (λ e. omega (arith, too_short s h)))

  pub another_by_kind : 4 ≤ length s → not (eqb (kind_of s) 2) ≡ eqb (conversion_refusal s) KIND
  another_by_kind long =
      by_equal (kind_of s) 2
      (λ two. ap not (eq-eqb (kind_of s) 2 two) ∙ sym (ne_eqb (conversion_refusal s) KIND (kind_two two)))
      (λ other.
      ap not (ne_eqb (kind_of s) 2 other) ∙ sym (eq-eqb (conversion_refusal s) KIND (sym (another_kind s long other))))
