-- A system compared with itself.
use Prim.Native.Nat.{ℕ, zero, suc}
use mathlib.Core.Path.{◌≡◌, refl, sym, ap, ◌∙◌}
use mathlib.Core.Bool.{true, false, not}
use mathlib.Core.List.{[]}
use native.Mathlib.Omega.{arith}
use lib.Dec.{eqb}
use lib.ListN.{length}
use borrow.Author.Tests.{eq-eqb, eqb-true}
use Rattle.calendar.proofs.Cases.{by_bool}
use Rattle.reckoning.specs.Answers.{YearAnswer}
use Rattle.reckoning.specs.Requests.{year_of}
use Rattle.reckoning.specs.YearValue.{head_in, number_in, leap_in}
use Rattle.comparison.specs.Comparisons.{comparison_refusal, same_month, is_listed, places_up_to, thirteen, listing}
use Rattle.comparison.specs.Comparisons.{no_comparison, comparison_of}
use Rattle.comparison.proofs.Listing.{no_more}
use Rattle.comparison.proofs.PlaceCases.{by_months, listed_both, listed_none}

module _ (a : YearAnswer) where
  same_itself : (i : ℕ) → same_month a a i ≡ true
  unfolding same_month
  same_itself i =
      simp
      (eq-eqb (number_in a i) (number_in a i) refl, eq-eqb (leap_in a i) (leap_in a i) refl, eq-eqb (head_in a i) (head_in a i) refl)

  none_listed : (i : ℕ) → is_listed a a i ≡ false
  none_listed i =
      by_months a a i
      (λ p q. listed_both a a i p q ∙ ap not (same_itself i))
      (λ p q. absurd (omega arith))
      (λ p q. absurd (omega arith))
      (λ p q. listed_none a a i p q)

  no_places : (n : ℕ) → places_up_to a a n ≡ []
  unfolding places_up_to
  no_places zero = refl
  no_places (suc n) = no_more a a n (none_listed n) ∙ no_places n

  listing_itself : listing a a ≡ no_comparison 0
  unfolding listing
  listing_itself = ap (λ places. record { refusal = 0; count = length places; places = thirteen places }) (no_places 13)

pub itself_lists_nothing : (system year : ℕ) → comparison_of system system year ≡ no_comparison (comparison_refusal system system year)
unfolding comparison_of
itself_lists_nothing system year =
    let refusal = comparison_refusal system system year in
    by_bool (eqb refusal 0)
    (λ e. simp e (listing_itself (year_of system year) ∙ ap no_comparison (sym (eqb-true refusal 0 e))))
    (λ e. simp e)
