-- The loop over a buffer.
use Prim.Native.Nat.{ℕ, ◌+◌, ◌-◌, ◌≤◌, ◌<◌}
use mathlib.Core.Path.{◌≡◌, refl, ap, ap₂, sym, ◌∙◌}
use mathlib.Core.Bool.{Bool, false, not, ◌||◌}
use mathlib.Core.List.{List, ◌++◌, append_assoc}
use native.Mathlib.Omega.{arith}
use lib.Dec.{eqb}
use borrow.Author.Tests.{ne_eqb}
use lib.ListN.{length, take, drop, length-append, length-drop, take-append-drop}
use lib.Seq.{drop_at, take_at, length-take-le}
use Rattle.std.specs.Prelude.{Option, Some, None, Result, Ok, Err, is_err}
use Rattle.std.proofs.Math.Bool.{or-false, or_assoc}
use Rattle.reckoning.specs.declared.refusal.Refusal.{Refusal}
use Rattle.reckoning.specs.RefusalNumbers.{number_of}
use Rattle.reckoning.specs.Told.{told_refusal}
use Rattle.reckoning.proofs.ToldCases.{number_not_0}
use Rattle.citation.specs.Record.{length_field}
use Rattle.conversion.specs.Conversion.{renewed, left_with}
use Rattle.conversion.proofs.Ends.{renewed_length}
use Rattle.framing.specs.Framing.{framed, framing, rest_of, next_of}
use Rattle.framing.proofs.Framed.{Next, next_is, next_none}
use Rattle.framing.proofs.Cutting.{framing_none, framing_more}
use Rattle.framing.proofs.WholeRun.{whole_none, whole_more}
use Rattle.renewal.specs.Renewal.{renewer, renewed_of, any_refused, renewal_of}

-- A record is refused where its refusal has a number.
is_refused : (r : Result (Unit {0}) Refusal) → is_err r ≡ not (eqb (told_refusal r) 0)
is_refused (Ok a) = refl
is_refused (Err e) = sym (ap not (ne_eqb (number_of e) 0 (number_not_0 e)))

-- So far a buffer was renewed: up to a place. The rest is still to be renewed.
pub record Renewing (s b : List ℕ) (at : ℕ) (refused : Bool) : Type 0 where
  pub at_within : at ≤ length b
  pub same_length : length b ≡ length s
  pub so_far : renewed_of s ≡ take at b ++ renewed_of (drop at b)
  pub rest_ahead : rest_of s ≡ rest_of (drop at b)
  pub refused_so_far : any_refused (framing s).records ≡ refused || any_refused (framing (drop at b)).records

pub renewing_starts : (s : List ℕ) → Renewing s s 0 false
renewing_starts s =
    record { at_within = omega arith; same_length = refl; so_far = refl; rest_ahead = refl; refused_so_far = refl }

module _ {s b : List ℕ} {at n : ℕ} {refused : Bool} {found : Option ℕ} (κ : Renewing s b at refused) (some : found ≡ Some n)
    (next : found ≡ next_of b at) where
  here : Next b at n
  here = next_is b at n (sym some ∙ next)

  pub record_within : at + n ≤ length b
  record_within = here.within

  module _ {p : List ℕ} (is : p ≡ renewed (take (at + n - at) (drop at b))) where
    -- the buffer with the record renewed, and what is ahead in it
    abbrev others : List ℕ
    others = drop (at + n - at) (drop at b)

    abbrev after : List ℕ
    after = take at b ++ (p ++ others)

    same : at + n - at ≡ n
    same = omega arith

    renewed_one : p ≡ renewed (take n (drop at b))
    renewed_one = is ∙ ap (λ k. renewed (take k (drop at b))) same

    long : length (take at b ++ p) ≡ at + n
    long =
        length-append (take at b) p
        ∙ ap₂ ◌+◌
        (length-take-le at b κ.at_within)
        (ap length renewed_one ∙ renewed_length (take n (drop at b)) ∙ length-take-le n (drop at b) here.all_there)

    grouped : after ≡ (take at b ++ p) ++ others
    grouped = sym (append_assoc (take at b) p others)

    front : take (at + n) after ≡ take at b ++ p
    front = ap (take (at + n)) grouped ∙ take_at (take at b ++ p) others (at + n) long

    ahead : drop (length_field (drop at b)) (drop at b) ≡ drop (at + n) after
    ahead =
        ap (λ k. drop k (drop at b)) (sym here.is_length ∙ sym same)
        ∙ sym (ap (drop (at + n)) grouped ∙ drop_at (take at b ++ p) others (at + n) long)

    after_length : length after ≡ length b
    after_length =
        omega (
          arith,
          ap length grouped,
          length-append (take at b ++ p) others,
          long,
          length-drop (at + n - at) (drop at b),
          length-drop at b,
          record_within,
        )

    pub less_left : length after - (at + n) < length b - at
    less_left = omega (arith, here.at_least, record_within, after_length)

    pub renewing_more : (r : Result (Unit {0}) Refusal) {refusal : Bool} → told_refusal r ≡ left_with (take (at + n - at) (drop at b))
        → refusal ≡ is_err r
        → Renewing s after (at + n) (refused || refusal)
    unfolding any_refused
    renewing_more r answered tested =
        let f = drop at b in
        let cut = framing_more f here.is_framed in
        let record_is : take (length_field f) f ≡ take n f = ap (λ k. take k f) (sym here.is_length) in
        record {
          at_within = omega (arith, after_length, record_within);
          same_length = after_length ∙ κ.same_length;
          so_far = κ.so_far
              ∙ ap (λ t. take at b ++ t) (whole_more renewer f here.is_framed ∙ ap₂ (λ r t. renewed r ++ renewed_of t) record_is ahead)
              ∙ ap (λ t. take at b ++ (t ++ renewed_of (drop (at + n) after))) (sym renewed_one)
              ∙ sym (append_assoc (take at b) p (renewed_of (drop (at + n) after)))
              ∙ ap (λ t. t ++ renewed_of (drop (at + n) after)) (sym front);
          rest_ahead = κ.rest_ahead ∙ ap (λ x. x.rest) cut ∙ ap rest_of ahead;
          refused_so_far = κ.refused_so_far
              ∙ ap (λ x. refused || any_refused x.records) cut
              ∙ ap₂ (λ r t. refused || (not (eqb (left_with r) 0) || any_refused (framing t).records)) record_is ahead
              ∙ sym (or_assoc refused (not (eqb (left_with (take n f)) 0)) (any_refused (framing (drop (at + n) after)).records))
              ∙ ap
              (λ k. (refused || k) || any_refused (framing (drop (at + n) after)).records)
              (ap (λ k. not (eqb (left_with (take k f)) 0)) (sym same)
              ∙ ap (λ k. not (eqb k 0)) (sym answered)
              ∙ sym (is_refused r)
              ∙ sym tested);
        }

-- Where no record is next, all is renewed.
module _ {s b : List ℕ} {at : ℕ} {refused : Bool} {found : Option ℕ} (κ : Renewing s b at refused) (none : found ≡ None)
    (next : found ≡ next_of b at) where
  no_record_lem : framed (drop at b) ≡ false
  no_record_lem = next_none b at (sym next ∙ none)

  pub all_renewed : b ≡ renewed_of s
  all_renewed =
      sym (κ.so_far ∙ ap (λ t. take at b ++ t) (whole_none renewer (drop at b) no_record_lem) ∙ take-append-drop at b)

  none_ahead : rest_of s ≡ drop at b
  none_ahead = κ.rest_ahead ∙ ap (λ x. x.rest) (framing_none (drop at b) no_record_lem)

  refused_is : refused ≡ any_refused (framing s).records
  unfolding any_refused
  refused_is =
      sym (κ.refused_so_far ∙ ap (λ x. refused || any_refused x.records) (framing_none (drop at b) no_record_lem) ∙ or-false refused)

  pub renewal_is : record { read = at; refused = refused } ≡ renewal_of s
  unfolding renewal_of
  renewal_is =
      let read_is : at ≡ length s - length (rest_of s) =
      omega (arith, ap length none_ahead, length-drop at b, κ.at_within, κ.same_length)
      in
      λ i. record { read = read_is i; refused = refused_is i }
