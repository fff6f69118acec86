-- Records written anew are cut as they were, where each keeps its length and its length field.
use Prim.Native.Nat.{ℕ, ◌≤◌}
use mathlib.Core.Path.{◌≡◌, ap, ap₂, sym, ◌∙◌}
use mathlib.Core.Bool.{true, false}
use mathlib.Core.List.{List, ◌++◌, map, append_assoc}
use native.Mathlib.Omega.{arith}
use lib.ListN.{length, take, drop, length-append, take-append-drop}
use lib.Seq.{take_at, drop_at, length-take-le}
use borrow.Author.Tests.{le-leb}
use Rattle.reckoning.specs.ComputedRefusals.{outside}
use Rattle.citation.specs.Record.{length_field}
use Rattle.framing.specs.Framing.{framed, Framing, record_then, framing, rest_of}
use Rattle.framing.specs.Run.{text_of}
use Rattle.framing.proofs.Framed.{framed_is, same_field}
use Rattle.framing.proofs.Cutting.{by_records, framing_none, framing_more}

-- A record by itself: its length field tells its length.
record Whole (r : List ℕ) : Type 0 where
  field : length_field r ≡ length r
  inside : outside 4 64 (length_field r) ≡ false
  at_least : 4 ≤ length r

-- With other bytes after it, it is the first record.
first_record : (r t : List ℕ) → Whole r → framing (r ++ t) ≡ record_then r (framing t)
first_record r t whole =
    let long = length-append r t in
    let field : length_field (r ++ t) ≡ length r = same_field r t (omega (arith, whole.at_least)) ∙ whole.field in
    let is_framed : framed (r ++ t) ≡ true =
    simp (
      le-leb 2 (length (r ++ t)) (omega (arith, whole.at_least)),
      ap (outside 4 64) (field ∙ sym whole.field) ∙ whole.inside,
      le-leb (length_field (r ++ t)) (length (r ++ t)) (omega arith),
    )
    in
    framing_more (r ++ t) is_framed
    ∙ ap₂ (λ front back. record_then front (framing back)) (take_at r t _ (sym field)) (drop_at r t _ (sym field))

-- The record in front of an input is one.
whole_front : (s : List ℕ) → framed s ≡ true → Whole (take (length_field s) s)
whole_front s e =
    let n = length_field s in
    let f = framed_is s e in
    let long = length-take-le n s f.all_there in
    let field : length_field (take n s) ≡ n =
    sym (same_field (take n s) (drop n s) (omega (arith, f.at_least))) ∙ ap length_field (take-append-drop n s)
    in
    record {
      field = field ∙ sym long;
      inside = ap (outside 4 64) field ∙ f.field_inside;
      at_least = omega (arith, f.at_least);
    }

module _ (of : List ℕ → List ℕ) (same_length : (r : List ℕ) → length (of r) ≡ length r)
    (same_length_field : (r : List ℕ) → length_field (of r) ≡ length_field r) where
  still_whole : (r : List ℕ) → Whole r → Whole (of r)
  still_whole r whole =
      record {
        field = same_length_field r ∙ whole.field ∙ sym (same_length r);
        inside = ap (outside 4 64) (same_length_field r) ∙ whole.inside;
        at_least = omega (arith, same_length r, whole.at_least);
      }

  abbrev written : Framing → List ℕ
  written f = text_of of f.records ++ f.rest

  abbrev anew : Framing → Framing
  anew f = record { records = map of f.records; rest = f.rest }

  pub framing_again : (s : List ℕ)
      → framing (text_of of (framing s).records ++ rest_of s) ≡ record { records = map of (framing s).records; rest = rest_of s }
  unfolding text_of
  framing_again =
      by_records {P = λ s. framing (written (framing s)) ≡ anew (framing s)}
      (λ s e. ap (λ f. framing (written f)) (framing_none s e) ∙ framing_none s e ∙ sym (ap anew (framing_none s e)))
      (λ s e others.
      let r = take (length_field s) s in
      let f = framing (drop (length_field s) s) in
      ap (λ x. framing (written x)) (framing_more s e)
      ∙ ap framing (append_assoc (of r) (text_of of f.records) f.rest)
      ∙ first_record (of r) (written f) (still_whole r (whole_front s e))
      ∙ ap (record_then (of r)) others
      ∙ sym (ap anew (framing_more s e)))
