-- The record at a place of a buffer.
use Prim.Native.Nat.{ℕ, ◌+◌, ◌-◌, ◌≤◌, ◌<◌}
use mathlib.Core.Path.{◌≡◌, ap, ap₂, sym, ◌∙◌}
use mathlib.Core.Bool.{true, false, not, ◌&&◌}
use mathlib.Core.List.{List, ◌++◌}
use native.Mathlib.Omega.{arith}
use lib.Dec.{leb}
use lib.ListN.{length, get_or, take, drop, length-append, length-drop, get_or-append}
use lib.Seq.{get_or-drop, take-append-le, drop-append-le}
use borrow.Author.Tests.{le-leb, lt-leb, leb-true, not-true}
use Rattle.std.specs.Prelude.{Option, Some, None}
use Rattle.std.proofs.lemmas.Option.{none-some, cond_some}
use Rattle.calendar.proofs.Cases.{by_bool, both}
use Rattle.reckoning.specs.ComputedRefusals.{outside}
use Rattle.reckoning.proofs.RefusalCases.{inside_of}
use Rattle.little_endian.specs.Number.{le16}
use Rattle.citation.specs.Record.{length_field}
use Rattle.framing.specs.Framing.{misframed, framed, next_of}

-- The length field at a place of a buffer.
pub field_at : {n : ℕ} (s : List ℕ) (at : ℕ) → n ≡ le16 (get_or s at 0) (get_or s (at + 1) 0) → n ≡ length_field (drop at s)
field_at s at e =
    let here : at + 0 ≡ at = omega arith in
    e ∙ sym (ap₂ le16 (get_or-drop at s 0 0 ∙ ap (λ i. get_or s i 0) here) (get_or-drop at s 1 0))

-- What `next` finds.
module _ (s : List ℕ) (at : ℕ) where
  pub no_field : length s < at + 2 → None ≡ next_of s at
  unfolding next_of
  no_field l = simp (lt-leb 2 (length (drop at s)) (omega (arith, length-drop at s)))

  pub bad_field : at + 2 ≤ length s → outside 4 64 (length_field (drop at s)) ≡ true → None ≡ next_of s at
  unfolding next_of
  bad_field l e = simp (le-leb 2 (length (drop at s)) (omega (arith, length-drop at s)), e)

  pub too_few : at + 2 ≤ length s → outside 4 64 (length_field (drop at s)) ≡ false → length s - at < length_field (drop at s) → None ≡ next_of s at
  unfolding next_of
  too_few l e f =
      simp (
        le-leb 2 (length (drop at s)) (omega (arith, length-drop at s)),
        e,
        lt-leb (length_field (drop at s)) (length (drop at s)) (omega (arith, length-drop at s)),
      )

  pub whole : at + 2 ≤ length s → outside 4 64 (length_field (drop at s)) ≡ false → length_field (drop at s) ≤ length s - at
      → Some (length_field (drop at s)) ≡ next_of s at
  unfolding next_of
  whole l e f =
      simp (
        le-leb 2 (length (drop at s)) (omega (arith, length-drop at s)),
        e,
        le-leb (length_field (drop at s)) (length (drop at s)) (omega (arith, length-drop at s)),
      )

-- A framed record.
pub record Framed (f : List ℕ) : Type 0 where
  pub has_field : 2 ≤ length f
  pub field_inside : outside 4 64 (length_field f) ≡ false
  pub all_there : length_field f ≤ length f
  pub at_least : 4 ≤ length_field f

pub framed_is : (f : List ℕ) → framed f ≡ true → Framed f
framed_is f e =
    let a = both (leb 2 (length f)) (not (outside 4 64 (length_field f)) && leb (length_field f) (length f)) e in
    let b = both (not (outside 4 64 (length_field f))) (leb (length_field f) (length f)) a.1 in
    let field_inside = not-true (outside 4 64 (length_field f)) b.0 in
    record {
      has_field = leb-true 2 (length f) a.0;
      field_inside = field_inside;
      all_there = leb-true (length_field f) (length f) b.1;
      at_least = (inside_of 4 64 (length_field f) field_inside).at_least;
    }

pub too_short : (s : List ℕ) → length s < 2 → framed s ≡ false
too_short s h = simp (lt-leb 2 (length s) h)

-- Where `next` gives a number, a record of that length is there.
pub record Next (s : List ℕ) (at n : ℕ) : Type 0 where
  pub is_framed : framed (drop at s) ≡ true
  pub is_length : n ≡ length_field (drop at s)
  pub at_least : 4 ≤ n
  pub all_there : n ≤ length (drop at s)
  pub within : at + n ≤ length s

pub next_is : (s : List ℕ) (at n : ℕ) → Some n ≡ next_of s at → Next s at n
unfolding next_of
next_is s at n e =
    let found = cond_some (framed (drop at s)) (length_field (drop at s)) n (sym e) in
    let f = framed_is (drop at s) found.0 in
    record {
      is_framed = found.0;
      is_length = sym found.1;
      at_least = omega (arith, found.1, f.at_least);
      all_there = omega (arith, found.1, f.all_there);
      within = omega (arith, found.1, f.at_least, f.all_there, length-drop at s);
    }

pub next_within : {n : ℕ} {found : Option ℕ} (s : List ℕ) (at : ℕ) → found ≡ Some n → found ≡ next_of s at → at + n ≤ length s
next_within s at some next = (next_is s at _ (sym some ∙ next)).within

pub less_ahead : {n : ℕ} {found : Option ℕ} (s : List ℕ) (at : ℕ) → found ≡ Some n → found ≡ next_of s at
    → length s - (at + n) < length s - at
less_ahead s at some next = let here = next_is s at _ (sym some ∙ next) in omega (arith, here.at_least, here.within)

-- Where it gives none, none is there.
pub next_none : (s : List ℕ) (at : ℕ) → next_of s at ≡ None → framed (drop at s) ≡ false
unfolding next_of
next_none s at e = by_bool (framed (drop at s)) (λ q. absurd (none-some (length_field (drop at s)) (sym e ∙ simp q))) (λ q. q)

-- A length field stays as it is, whatever follows.
pub same_field : (f t : List ℕ) → 2 ≤ length f → length_field (f ++ t) ≡ length_field f
same_field f t two = ap₂ le16 (get_or-append f t 0 0 (omega arith)) (get_or-append f t 0 1 (omega arith))

-- So does a framed record,
module _ (f t : List ℕ) (e : framed f ≡ true) where
  field_kept : length_field (f ++ t) ≡ length_field f
  field_kept = same_field f t (framed_is f e).has_field

  pub still_framed : framed (f ++ t) ≡ true
  still_framed =
      let g = framed_is f e in
      let long = length-append f t in
      simp (
        le-leb 2 (length (f ++ t)) (omega (arith, g.has_field)),
        ap (outside 4 64) field_kept ∙ g.field_inside,
        le-leb (length_field (f ++ t)) (length (f ++ t)) (omega (arith, field_kept, g.all_there)),
      )

  pub same_front : take (length_field (f ++ t)) (f ++ t) ≡ take (length_field f) f
  same_front = ap (λ n. take n (f ++ t)) field_kept ∙ take-append-le (length_field f) f t (framed_is f e).all_there

  pub same_back : drop (length_field (f ++ t)) (f ++ t) ≡ drop (length_field f) f ++ t
  same_back = ap (λ n. drop n (f ++ t)) field_kept ∙ drop-append-le (length_field f) f t (framed_is f e).all_there

-- and a length field that no record has.
module _ (r t : List ℕ) (bad : misframed r ≡ true) where
  pub two_bytes : 2 ≤ length r
  two_bytes = leb-true 2 (length r) (both (leb 2 (length r)) (outside 4 64 (length_field r)) bad).0

  pub still_misframed : framed (r ++ t) ≡ false
  still_misframed =
      let two = two_bytes in
      let wrong = (both (leb 2 (length r)) (outside 4 64 (length_field r)) bad).1 in
      simp (le-leb 2 (length (r ++ t)) (omega (arith, length-append r t)), ap (outside 4 64) (same_field r t two) ∙ wrong)
