-- Two systems compared the other way round.
use Prim.Native.Nat.{ℕ, zero, suc, ◌+◌, ◌-◌}
use mathlib.Core.Path.{◌≡◌, refl, sym, ap, ap₂, ◌∙◌}
use mathlib.Core.Bool.{Bool, true, false, true≢false, not, cond}
use mathlib.Core.List.{List, [], ◌∷◌, ◌++◌, map, map-append}
use lib.Dec.{eqb}
use lib.IntN.{pos, neg_ℤ, ◌+ℤ◌, ◌-ℤ◌, neg_ℤ-+ℤ, neg_ℤ-neg_ℤ, +ℤ_comm}
use lib.ListN.{length, replicate, length-map}
use borrow.Author.Tests.{eq-eqb, ne_eqb, eqb-true, eqb-false}
use Rattle.calendar.proofs.Cases.{by_bool}
use Rattle.reckoning.specs.Answers.{YearAnswer}
use Rattle.reckoning.specs.RefusalNumbers.{SYSTEM}
use Rattle.reckoning.specs.ComputedRefusals as Rules
use Rattle.reckoning.specs.ComputedRefusals.{wrong_system, wrong_year}
use Rattle.reckoning.specs.Requests.{year_of}
use Rattle.reckoning.specs.YearValue.{head_in, number_in, leap_in}
use Rattle.comparison.specs.declared.data.Difference.TheVariants.{Days}
use Rattle.comparison.specs.declared.data.Listed.{Listed}
use Rattle.comparison.specs.Comparisons.{comparison_refusal, same_month, is_listed, difference_at, listed_at, places_up_to}
use Rattle.comparison.specs.Comparisons.{unused, thirteen, listing, no_comparison, comparison_of}
use Rattle.comparison.specs.Swapped.{other_way, other_way_at, swapped}
use Rattle.comparison.proofs.Refusals.{applies}
use Rattle.comparison.proofs.Listing.{one_more, no_more}
use Rattle.comparison.proofs.PlaceCases.{by_months, listed_both, listed_first, listed_second, listed_none}
use Rattle.comparison.proofs.PlaceCases.{days_between, first_lacks, second_lacks}

eqb_swapped : (x y : ℕ) → eqb y x ≡ eqb x y
eqb_swapped x y =
    by_bool (eqb x y)
    (λ e. eq-eqb y x (sym (eqb-true x y e)) ∙ sym e)
    (λ e. ne_eqb y x (λ q. eqb-false x y e (sym q)) ∙ sym e)

days_swapped : (x y : ℕ) → pos x -ℤ pos y ≡ neg_ℤ (pos y -ℤ pos x)
days_swapped x y =
    +ℤ_comm (pos x) (neg_ℤ (pos y))
    ∙ ap (λ z. neg_ℤ (pos y) +ℤ z) (sym (neg_ℤ-neg_ℤ (pos x)))
    ∙ sym (neg_ℤ-+ℤ (pos y) (neg_ℤ (pos x)))

module _ (a b : YearAnswer) where
  same_swapped : (i : ℕ) → same_month b a i ≡ same_month a b i
  unfolding same_month
  same_swapped i = rw (eqb_swapped (number_in a i) (number_in b i), eqb_swapped (leap_in a i) (leap_in b i), eqb_swapped (head_in a i) (head_in b i)) refl

  listed_swapped : (i : ℕ) → is_listed b a i ≡ is_listed a b i
  listed_swapped i =
      by_months a b i
      (λ p q. listed_both b a i q p ∙ ap not (same_swapped i) ∙ sym (listed_both a b i p q))
      (λ p q. listed_second b a i q p ∙ sym (listed_first a b i p q))
      (λ p q. listed_first b a i q p ∙ sym (listed_second a b i p q))
      (λ p q. listed_none b a i q p ∙ sym (listed_none a b i p q))

  difference_swapped : (i : ℕ) → is_listed a b i ≡ true → difference_at b a i ≡ other_way (difference_at a b i)
  difference_swapped i e =
      by_months a b i
      (λ p q.
      days_between b a i q p ∙ ap Days (days_swapped (head_in a i) (head_in b i)) ∙ ap other_way (sym (days_between a b i p q)))
      (λ p q. first_lacks b a i q ∙ ap other_way (sym (second_lacks a b i p q)))
      (λ p q. second_lacks b a i q p ∙ ap other_way (sym (first_lacks a b i p)))
      (λ p q. absurd (true≢false (sym e ∙ listed_none a b i p q)))

  places_swapped : (n : ℕ) → places_up_to b a n ≡ map other_way_at (places_up_to a b n)
  unfolding places_up_to
  places_swapped zero = refl
  places_swapped (suc n) =
      by_bool (is_listed a b n)
      (λ e.
      one_more b a n (listed_swapped n ∙ e)
      ∙ ap₂ (λ places d. places ++ record { place = n + 1; difference = d } ∷ []) (places_swapped n) (difference_swapped n e)
      ∙ sym (map-append other_way_at (places_up_to a b n) (listed_at a b n ∷ []))
      ∙ ap (map other_way_at) (sym (one_more a b n e)))
      (λ e. no_more b a n (listed_swapped n ∙ e) ∙ places_swapped n ∙ ap (map other_way_at) (sym (no_more a b n e)))

unused_swapped : (n : ℕ) → map other_way_at (replicate n unused) ≡ replicate n unused
unused_swapped zero = refl
unused_swapped (suc n) = ap (λ places. unused ∷ places) (unused_swapped n)

thirteen_swapped : (places : List Listed) → thirteen (map other_way_at places) ≡ map other_way_at (thirteen places)
thirteen_swapped places =
    ap (λ n. map other_way_at places ++ replicate (13 - n) unused) (length-map places other_way_at)
    ∙ ap (λ rest. map other_way_at places ++ rest) (sym (unused_swapped (13 - length places)))
    ∙ sym (map-append other_way_at places (replicate (13 - length places) unused))

listing_swapped : (a b : YearAnswer) → listing b a ≡ swapped (listing a b)
unfolding listing
listing_swapped a b =
    ap (λ places. record { refusal = 0; count = length places; places = thirteen places }) (places_swapped a b 13)
    ∙ ap₂ (λ n places. record { refusal = 0; count = n; places = places })
    (length-map (places_up_to a b 13) other_way_at)
    (thirteen_swapped (places_up_to a b 13))

either_first : (wrong other : Bool) (number rest : ℕ) → cond other number (cond wrong number rest) ≡ cond wrong number (cond other number rest)
either_first true true number rest = refl
either_first true false number rest = refl
either_first false true number rest = refl
either_first false false number rest = refl

refusal_swapped : (first second year : ℕ) → comparison_refusal second first year ≡ comparison_refusal first second year
unfolding comparison_refusal
refusal_swapped first second year =
    either_first (applies (wrong_system first)) (applies (wrong_system second)) SYSTEM (Rules.first (wrong_year year ∷ []))

pub swapped_answer : (first second year : ℕ) → comparison_of second first year ≡ swapped (comparison_of first second year)
unfolding comparison_of
swapped_answer first second year =
    let refusal = comparison_refusal first second year in
    let a = year_of first year in
    let b = year_of second year in
    ap (λ r. cond (eqb r 0) (listing b a) (no_comparison r)) (refusal_swapped first second year)
    ∙ by_bool (eqb refusal 0)
    (λ e. simp e (listing_swapped a b))
    (λ e. simp e (ap (λ places. record { refusal = refusal; count = 0; places = places }) (sym (unused_swapped 13))))
