-- What a comparison has at each of its entries.
use Prim.Native.Nat.{ℕ, ◌+◌, ◌-◌, ◌≤◌, ◌<◌}
use mathlib.Core.Path.{◌≡◌, sym, subst, ap, ◌∙◌}
use mathlib.Core.List.{◌++◌}
use native.Mathlib.Omega.{arith}
use lib.IntN.{pos}
use lib.ListN.{length, get_or, replicate, length-append, length-replicate, get_or-append}
use lib.Seq.{get_or-append-add}
use borrow.Author.Tests.{eq-eqb}
use Rattle.calendar.specs.ExactlyOne.{ExactlyOne}
use Rattle.calendar.proofs.Rising.{by_order}
use Rattle.reckoning.specs.Answers.{YearAnswer}
use Rattle.reckoning.specs.Requests.{year_of}
use Rattle.reckoning.specs.Scope.{InScope}
use Rattle.reckoning.proofs.FilledLaws.{replicate_reads}
use Rattle.comparison.specs.Answers.{ComparisonAnswer}
use Rattle.comparison.specs.declared.data.Difference.TheVariants.{Days}
use Rattle.comparison.specs.declared.data.Listed.{Listed}
use Rattle.comparison.specs.Comparisons.{comparison_refusal, listed_at, places_up_to, unused, listing, no_comparison}
use Rattle.comparison.specs.Comparisons.{comparison_of}
use Rattle.comparison.specs.WhereSystemsDiffer.{SystemsDiffer, Says, place_in, ListsAs, EachSays, ZerosFrom}
use Rattle.comparison.proofs.Listing.{before, before_most, in_order, StandsAt, stands_at, stands_within, stands_alone}
use Rattle.comparison.proofs.MonthsCompared.{differ_if_listed, says_how, listed_if_differ}
use Rattle.comparison.proofs.Refusals.{compared, blank, first_in_scope, second_in_scope}

-- An unused entry is zeros.
zeros_of : {e : Listed} → e ≡ unused → (e.place ≡ 0) × (e.difference ≡ Days (pos 0))
zeros_of is = (ap (λ l. l.place) is, ap (λ l. l.difference) is)

pub blank_zeros : (number : ℕ) → ZerosFrom (no_comparison number) 0
blank_zeros number j h = zeros_of (replicate_reads unused 13 j)

-- Two values compared.
module _ (a b : YearAnswer) where
  entry : (j : ℕ) → j < before a b 13 → (s : StandsAt a b 13 j)
      → get_or (listing a b).places j unused ≡ listed_at a b s.place
  unfolding listing
  entry j h s =
      let places = places_up_to a b 13 in
      get_or-append places (replicate (13 - length places) unused) unused j h ∙ s.is

  thirteen_of_listing : length (listing a b).places ≡ 13
  unfolding listing
  thirteen_of_listing =
      let places = places_up_to a b 13 in
      length-append places (replicate (13 - length places) unused)
      ∙ omega (arith, length-replicate (13 - length places) unused, before_most a b 13)

  zeros_after : ZerosFrom (listing a b) (before a b 13)
  unfolding listing
  zeros_after j h =
      let places = places_up_to a b 13 in
      let rest = replicate (13 - length places) unused in
      let past : length places + (j - length places) ≡ j = omega arith in
      zeros_of
      (ap (λ n. get_or (places ++ rest) n unused) (sym past)
      ∙ get_or-append-add places rest (j - length places) unused
      ∙ replicate_reads unused (13 - length places) (j - length places))

-- The systems and the year in scope.
module _ (first second year : ℕ) (s : InScope first year) (t : InScope second year) where
  abbrev v : ComparisonAnswer
  v = comparison_of first second year

  abbrev a : YearAnswer
  a = year_of first year

  abbrev b : YearAnswer
  b = year_of second year

  is_listing : v ≡ listing a b
  unfolding comparison_of
  is_listing = simp (eq-eqb (comparison_refusal first second year) 0 (compared first second year s t))

  counted : v.count ≡ before a b 13
  unfolding listing
  counted = ap (λ w. w.count) is_listing

  record Entry (i : ℕ) : Type 0 where
    stands : StandsAt a b 13 i
    is : get_or v.places i unused ≡ listed_at a b stands.place
    place_is : place_in v i ≡ stands.place + 1

  entry_at : (i : ℕ) → i < v.count → Entry i
  entry_at i h =
      let l : i < before a b 13 = omega (arith, counted) in
      let at = stands_at a b 13 i l in
      let here = ap (λ w. get_or w.places i unused) is_listing ∙ entry a b i l at in
      record { stands = at; is = here; place_is = ap (λ e. e.place) here }

  each_says_here : EachSays first second year v
  each_says_here i h =
      let e = entry_at i h in
      subst (λ l. Says first second year l.place l.difference) (sym e.is)
      (says_how first second year s t e.stands.place e.stands.listed)

  pub differ_where_listed : (i : ℕ) → i < v.count → SystemsDiffer first second year (place_in v i)
  differ_where_listed i h =
      let e = entry_at i h in
      subst (SystemsDiffer first second year) (sym e.place_is)
      (differ_if_listed first second year s t e.stands.place e.stands.listed)

  pub listed_where_differ : (place : ℕ) → SystemsDiffer first second year place → ExactlyOne (ListsAs v place)
  listed_where_differ place d =
      let count = counted in
      let to_list = listed_if_differ first second year s t place d in
      let from = to_list.from_first in
      let i = before a b (place - 1) in
      let within = stands_within a b 13 (place - 1) (omega (arith, to_list.to_thirteenth)) to_list.listed in
      let e = entry_at i (omega arith) in
      let here = stands_alone a b e.stands.place (place - 1) e.stands.listed to_list.listed e.stands.stands in
      record {
        it = i;
        has = (omega arith, omega (arith, e.place_is));
        only = λ j p.
            let f = entry_at j p.0 in
            let there : f.stands.place ≡ place - 1 = omega (arith, f.place_is, p.1) in
            sym f.stands.stands ∙ ap (before a b) there;
      }

  pub in_rising_order : (i j : ℕ) → i < j → j < v.count → place_in v i < place_in v j
  in_rising_order i j l h =
      let e = entry_at i (omega arith) in
      let f = entry_at j h in
      let rises = in_order a b e.stands.place f.stands.place (omega (arith, e.stands.stands, f.stands.stands)) in
      omega (arith, e.place_is, f.place_is)

  pub first_to_thirteenth : (i : ℕ) → i < v.count → (1 ≤ place_in v i) × (place_in v i ≤ 13)
  first_to_thirteenth i h = let e = entry_at i h in (omega (arith, e.place_is), omega (arith, e.place_is, e.stands.within))

  pub thirteen_at_most : v.count ≤ 13
  thirteen_at_most = omega (arith, counted, before_most a b 13)

  pub not_refused : v.refusal ≡ 0
  unfolding listing
  not_refused = ap (λ w. w.refusal) is_listing

  pub thirteen_entries : length v.places ≡ 13
  thirteen_entries = ap (λ w. length w.places) is_listing ∙ thirteen_of_listing a b

  pub unused_are_zeros : ZerosFrom v v.count
  unused_are_zeros =
      subst (λ n. ZerosFrom v n) (sym counted) (subst (λ w. ZerosFrom w (before a b 13)) (sym is_listing) (zeros_after a b))

-- Whatever is asked: a refused comparison lists nothing of which it could say anything.
module _ (first second year : ℕ) where
  pub each_says : EachSays first second year (comparison_of first second year)
  each_says =
      let refusal = comparison_refusal first second year in
      by_order 0 refusal
      (λ some i h.
      let none = ap (λ v. v.count) (blank first second year (λ z. omega arith)) in absurd (omega arith))
      (λ none.
      let accepted : refusal ≡ 0 = omega arith in
      each_says_here first second year (first_in_scope first second year accepted) (second_in_scope first second year accepted))

  -- as the promise says it
  pub promised : {v : ComparisonAnswer} → v ≡ comparison_of first second year
      → (v ≡ comparison_of first second year) × EachSays first second year v
  promised is = (is, subst (EachSays first second year) (sym is) each_says)
