-- An input cut into records, one after another.
use Prim.Native.Nat.{ℕ, zero, suc, ◌≤◌, ◌<◌}
use mathlib.Core.Path.{◌≡◌, refl, ap, ap₂, sym, ◌∙◌}
use mathlib.Core.Bool.{true, false}
use mathlib.Core.List.{List, ◌++◌}
use native.Mathlib.Omega.{arith}
use lib.ListN.{length, take, drop, length-drop}
use Rattle.calendar.proofs.Cases.{by_bool}
use Rattle.citation.specs.Record.{length_field}
use Rattle.framing.specs.Framing.{framed, Framing, no_record, record_then, framing_within, framing, rest_of}
use Rattle.framing.proofs.Framed.{framed_is, too_short, still_framed, same_front, same_back}

abbrev others_of : List ℕ → List ℕ
others_of s = drop (length_field s) s

pub shorter : (s : List ℕ) → framed s ≡ true → length (others_of s) < length s
shorter s e =
    let f = framed_is s e in omega (arith, length-drop (length_field s) s, f.at_least, f.all_there)

-- What holds where no record is in front, and holds with one more in front, holds.
module _ {P : List ℕ → Type 0} (none : (s : List ℕ) → framed s ≡ false → P s)
    (more : (s : List ℕ) → framed s ≡ true → P (drop (length_field s) s) → P s) where
  within : (most : ℕ) (s : List ℕ) → length s ≤ most → P s
  within zero s h = none s (too_short s (omega arith))
  within (suc most) s h =
      by_bool (framed s) (λ e. more s e (within most (others_of s) (omega (arith, shorter s e)))) (none s)

  pub by_records : (s : List ℕ) → P s
  by_records s = within (length s) s (omega arith)

within_none : (most : ℕ) (s : List ℕ) → framed s ≡ false → framing_within most s ≡ no_record s
unfolding framing_within
within_none zero s e = refl
within_none (suc most) s e = simp e

within_more : (most : ℕ) (s : List ℕ) → framed s ≡ true
    → framing_within (suc most) s ≡ record_then (take (length_field s) s) (framing_within most (others_of s))
unfolding framing_within
within_more most s e = simp e

-- A bound that the input's length keeps to changes nothing.
enough : (m k : ℕ) (s : List ℕ) → length s ≤ m → length s ≤ k → framing_within m s ≡ framing_within k s
enough zero k s a b =
    let none = too_short s (omega arith) in within_none zero s none ∙ sym (within_none k s none)
enough (suc m) zero s a b =
    let none = too_short s (omega arith) in within_none (suc m) s none ∙ sym (within_none zero s none)
enough (suc m) (suc k) s a b =
    by_bool (framed s)
    (λ e.
    let less = shorter s e in
    within_more m s e
    ∙ ap (record_then (take (length_field s) s)) (enough m k (others_of s) (omega arith) (omega arith))
    ∙ sym (within_more k s e))
    (λ e. within_none (suc m) s e ∙ sym (within_none (suc k) s e))

pub framing_none : (s : List ℕ) → framed s ≡ false → framing s ≡ no_record s
framing_none s = within_none (length s) s

pub framing_more : (s : List ℕ) → framed s ≡ true → framing s ≡ record_then (take (length_field s) s) (framing (drop (length_field s) s))
framing_more s e =
    let less = shorter s e in
    enough (length s) (suc (length s)) s (omega arith) (omega arith)
    ∙ within_more (length s) s e
    ∙ ap (record_then (take (length_field s) s)) (enough (length s) (length (others_of s)) (others_of s) (omega arith) (omega arith))

-- Records, and then others.
abbrev records_then : List (List ℕ) → Framing → Framing
records_then records others = record { records = records ++ others.records; rest = others.rest }

-- The records of s are the first ones, whatever follows.
pub framing_append : (t s : List ℕ)
    → framing (s ++ t) ≡ record { records = (framing s).records ++ (framing (rest_of s ++ t)).records; rest = (framing (rest_of s ++ t)).rest }
framing_append t =
    by_records {P = λ s. framing (s ++ t) ≡ records_then (framing s).records (framing (rest_of s ++ t))}
    (λ s e. sym (ap (λ f. records_then f.records (framing (f.rest ++ t))) (framing_none s e)))
    (λ s e others.
    framing_more (s ++ t) (still_framed s t e)
    ∙ ap₂ (λ front back. record_then front (framing back)) (same_front s t e) (same_back s t e)
    ∙ ap (record_then (take (length_field s) s)) others
    ∙ sym (ap (λ f. records_then f.records (framing (f.rest ++ t))) (framing_more s e)))
