-- The case of a place, by which of the two systems has a month there.
use Prim.Native.Nat.{ℕ}
use mathlib.Core.Path.{◌≡◌, refl, sym, ap, ap₂, ◌∙◌}
use lib.IntN.{ℤ, pos, ◌+ℤ◌, ◌-ℤ◌, +ℤ_comm, +ℤ-neg_ℤ_cancel}
use Rattle.reckoning.specs.Scope.{InScope}
use Rattle.comparison.specs.declared.data.Difference.{Difference}
use Rattle.comparison.specs.declared.data.Difference.TheVariants.{Days, FirstLacks, SecondLacks}
use Rattle.comparison.specs.WhereSystemsDiffer.{MonthAt, NoMonthAt, Says}
use Rattle.comparison.proofs.MonthsCompared.{one_head}

days_alone : (x y : ℕ) (days : ℤ) → pos y ≡ pos x +ℤ days → days ≡ pos y -ℤ pos x
days_alone x y days e =
    sym (+ℤ-neg_ℤ_cancel days (pos x)) ∙ ap (λ z. z -ℤ pos x) (+ℤ_comm days (pos x)) ∙ ap (λ z. z -ℤ pos x) (sym e)

module _ (first second year : ℕ) (s : InScope first year) (t : InScope second year) (place : ℕ) where
  pub case_of_both : (d : Difference) → Says first second year place d
      → (m : MonthAt first year place) → (n : MonthAt second year place)
      → d ≡ Days (pos n.head -ℤ pos m.head)
  case_of_both (Days days) says m n =
      ap Days
      (days_alone says.of_first.head says.of_second.head days says.apart
      ∙ ap₂ (λ y x. pos y -ℤ pos x)
      (one_head second year t place says.of_second n)
      (one_head first year s place says.of_first m))
  case_of_both FirstLacks says m n = absurd (says.0 m)
  case_of_both SecondLacks says m n = absurd (says.1 n)

  pub case_first_lacks : (d : Difference) → Says first second year place d → NoMonthAt first year place → d ≡ FirstLacks
  case_first_lacks (Days days) says none = absurd (none says.of_first)
  case_first_lacks FirstLacks says none = refl
  case_first_lacks SecondLacks says none = absurd (none says.0)

  pub case_second_lacks : (d : Difference) → Says first second year place d → NoMonthAt second year place → d ≡ SecondLacks
  case_second_lacks (Days days) says none = absurd (none says.of_second)
  case_second_lacks FirstLacks says none = absurd (none says.1)
  case_second_lacks SecondLacks says none = refl
