-- A comparison that was answered has places that can be told.
use Prim.Native.Nat.{ℕ, suc, ◌+◌, ◌-◌, ◌≤◌, ◌<◌}
use mathlib.Core.Path.{◌≡◌, refl, subst, sym, ap, ◌∙◌}
use native.Mathlib.Omega.{arith}
use lib.Dec.{ltb}
use lib.IntN.{ℤ, pos, negsuc, nat_abs, ◌+ℤ◌, pos-ne-negsuc}
use lib.ListN.{take, get_or}
use Rattle.std.proofs.lemmas.List.{get_or-take}
use borrow.Author.Tests.{ltb-false}
use Rattle.std.proofs.Common.{Result, Ok, Err}
use Rattle.std.specs.Prelude.{IsOk}
use Rattle.calendar.proofs.Cases.{by_bool}
use Rattle.reckoning.specs.declared.data.Year.{Year}
use Rattle.reckoning.specs.declared.refusal.Refusal.{Refusal}
use Rattle.reckoning.specs.Requests.{year_of}
use Rattle.reckoning.specs.Scope.{InScope}
use Rattle.reckoning.specs.Told.{told_year}
use Rattle.reckoning.proofs.MonthsRight.{year_carries}
use Rattle.reckoning.proofs.RefusalCases.{in_scope}
use Rattle.reckoning.proofs.ToldCases.{number_not_0}
use Rattle.comparison.specs.Answers.{ComparisonAnswer}
use Rattle.comparison.specs.declared.data.Difference.{Difference}
use Rattle.comparison.specs.declared.data.Difference.TheVariants.{Days, FirstLacks, SecondLacks}
use Rattle.comparison.specs.Comparisons.{unused, comparison_refusal, comparison_of}
use Rattle.comparison.specs.WhereSystemsDiffer.{Says, difference_in}
use Rattle.comparison.proofs.MonthsCompared.{head_small}
use Rattle.comparison.proofs.Refusals.{carries, first_in_scope, second_in_scope}
use Rattle.comparison.proofs.ComparisonRight.{first_to_thirteenth, thirteen_at_most, says_what_it_stands_for}
use Rattle.comparison_pages.specs.Printable.{SmallDays, PlacePrintable, Printable}

-- A difference is no larger than the two numbers together.
natural : ℤ → ℕ
natural (pos n) = n
natural (negsuc n) = 0

size_most : (x y : ℕ) (z : ℤ) → pos y ≡ pos x +ℤ z → nat_abs z ≤ x + y
unfolding natural
size_most x y (pos n) e = omega (arith, ap natural e)
size_most x y (negsuc n) e =
    by_bool (ltb x (suc n))
    (λ l. absurd (pos-ne-negsuc y (suc n - suc x) (e ∙ simp l)))
    (λ l. omega (arith, ltb-false x (suc n) l))

-- A year in scope is answered.
year_there : (system n : ℕ) → InScope system n → (r : Result Year Refusal) → told_year r ≡ year_of system n → IsOk r
year_there system n s (Ok y) told = refl
year_there system n s (Err e) told =
    absurd (number_not_0 e (ap (λ v. v.refusal) told ∙ year_carries system n ∙ in_scope system n s))

module _ (first second n : ℕ) (s : InScope first n) (t : InScope second n) where
  small : (place : ℕ) (d : Difference) → Says first second n place d → SmallDays d
  small place (Days days) says =
      omega (
        arith,
        size_most says.of_first.head says.of_second.head days says.apart,
        head_small first n s place says.of_first,
        head_small second n t place says.of_second,
      )
  small place FirstLacks says = tt
  small place SecondLacks says = tt

  answered : Printable (comparison_of first second n)
  answered =
      record {
        thirteen_at_most = thirteen_at_most first second n s t;
        place = λ i h.
            let told = first_to_thirteenth first second n s t i h in
            record {
              from_first = told.0;
              to_thirteenth = told.1;
              small_days = small _ (difference_in (comparison_of first second n) i) (says_what_it_stands_for first second n i h);
            };
      }

module _ {compared : ComparisonAnswer} (first second n : ℕ) (is : compared ≡ comparison_of first second n) (none : compared.refusal ≡ 0) where
  accepted : comparison_refusal first second n ≡ 0
  accepted = sym (carries first second n) ∙ sym (ap (λ v. v.refusal) is) ∙ none

  pub printable : Printable compared
  printable =
      subst Printable (sym is)
      (answered first second n (first_in_scope first second n accepted) (second_in_scope first second n accepted))

  -- It has the years of both systems.
  pub first_there : (r : Result Year Refusal) → told_year r ≡ year_of first n → IsOk r
  first_there r told = year_there first n (first_in_scope first second n accepted) r told

  pub second_there : (r : Result Year Refusal) → told_year r ≡ year_of second n → IsOk r
  second_there r told = year_there second n (second_in_scope first second n accepted) r told

pub place_printable : {compared : ComparisonAnswer} {i : ℕ} → Printable compared → i < compared.count
    → PlacePrintable (get_or (take compared.count compared.places) i unused)
place_printable {compared} {i} p h =
    subst PlacePrintable (sym (get_or-take compared.count compared.places i unused h)) (p.place i h)
