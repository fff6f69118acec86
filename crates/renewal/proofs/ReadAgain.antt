-- What is renewed, read again: the same records, renewed, each left as it was left before; so that renewing it again
-- changes nothing.
use Prim.Native.Nat.{ℕ}
use mathlib.Core.Path.{◌≡◌, refl, ap, ap₂, sym, ◌∙◌}
use mathlib.Core.Bool.{not, ◌||◌}
use mathlib.Core.List.{List, [], ◌∷◌, ◌++◌, map}
use native.Mathlib.Omega.{arith}
use lib.Dec.{eqb}
use borrow.Author.Tests.{eqb-true, eqb-false}
use Rattle.calendar.proofs.Cases.{by_bool}
use Rattle.little_endian.specs.Number.{le16}
use Rattle.citation.specs.Record.{length_field}
use Rattle.conversion.specs.Conversion.{conversion_refusal, converted, renewed, left_with}
use Rattle.conversion.proofs.Conversions.{same_byte, converted_again}
use Rattle.conversion.proofs.Ends.{renewed_length, renewed_left, left_with_lem, left_another}
use Rattle.framing.specs.Framing.{framing, rest_of}
use Rattle.framing.specs.Run.{text_of}
use Rattle.framing.proofs.Again.{framing_again}
use Rattle.renewal.specs.Renewal.{renewed_of, any_refused}

module _ (s : List ℕ) where
  -- A record is converted, or stays as it is.
  by_renewed : (P : List ℕ → Type 0) → (conversion_refusal s ≡ 0 → P (converted s)) → ((conversion_refusal s ≡ 0 → ⊥) → P s) → P (renewed s)
  unfolding renewed
  by_renewed P changed kept =
      by_bool (eqb (conversion_refusal s) 0)
      (λ e. rw e (changed (eqb-true (conversion_refusal s) 0 e)))
      (λ e. rw e (kept (eqb-false (conversion_refusal s) 0 e)))

  pub same_length_field : length_field (renewed s) ≡ length_field s
  same_length_field =
      by_renewed (λ r. length_field r ≡ length_field s)
      (λ z. ap₂ le16 (same_byte s 0 (λ e. omega arith) (λ e. omega arith)) (same_byte s 1 (λ e. omega arith) (λ e. omega arith)))
      (λ some. refl)

  pub renewed_again : renewed (renewed s) ≡ renewed s
  renewed_again =
      by_renewed (λ r. renewed r ≡ r)
      (λ z. sym (renewed_left (converted s) (λ w. omega (arith, converted_again s z))))
      (λ some. sym (renewed_left s some))

  pub left_again : left_with (renewed s) ≡ left_with s
  left_again =
      by_renewed (λ r. left_with r ≡ left_with s)
      (λ z. sym (left_another (converted s) (converted_again s z)) ∙ sym z ∙ left_with_lem s (λ e. omega arith))
      (λ some. refl)

-- The records of what is renewed are those that there were, renewed, and what is left after them is the same.
pub renewed_framing : (s : List ℕ) → framing (renewed_of s) ≡ record { records = map renewed (framing s).records; rest = rest_of s }
renewed_framing = framing_again renewed renewed_length same_length_field

text_again : (records : List (List ℕ)) → text_of renewed (map renewed records) ≡ text_of renewed records
unfolding text_of
text_again [] = refl
text_again (r ∷ records) = ap₂ ◌++◌ (renewed_again r) (text_again records)

pub nothing_changes : (s : List ℕ) → renewed_of (renewed_of s) ≡ renewed_of s
nothing_changes s =
    ap (λ f. text_of renewed f.records ++ f.rest) (renewed_framing s)
    ∙ ap (λ t. t ++ rest_of s) (text_again (framing s).records)

-- So the records that were refused can be told from the renewed bytes.
pub any_refused_again : (records : List (List ℕ)) → any_refused (map renewed records) ≡ any_refused records
unfolding any_refused
any_refused_again [] = refl
any_refused_again (r ∷ records) = ap₂ (λ n b. not (eqb n 0) || b) (left_again r) (any_refused_again records)
