-- What the values of two years say of a place, by which of them has a month there.
use Prim.Native.Nat.{ℕ, ◌≤◌, ◌<◌}
use mathlib.Core.Path.{◌≡◌, refl, sym, ap, ap₂, ◌∙◌}
use mathlib.Core.Logic.{◌⊎◌, inl, inr}
use mathlib.Core.Bool.{Bool, true, false, true≢false, not, ◌&&◌}
use lib.Dec.{eqb}
use lib.IntN.{pos, ◌-ℤ◌}
use borrow.Author.Tests.{lt-ltb, le-ltb, eqb-true, eqb-false}
use Rattle.std.proofs.Common.{Option, Some, None}
use Rattle.calendar.proofs.Cases.{by_bool, both}
use Rattle.calendar.proofs.Rising.{by_order}
use Rattle.reckoning.specs.Answers.{YearAnswer}
use Rattle.reckoning.specs.YearValue.{head_in, number_in, leap_in}
use Rattle.comparison.specs.declared.data.Difference.{Difference}
use Rattle.comparison.specs.declared.data.Difference.TheVariants.{Days, FirstLacks, SecondLacks}
use Rattle.comparison.specs.declared.places.Month.{Month}
use Rattle.comparison.specs.Comparisons.{same_month, is_listed, difference_at}
use Rattle.comparison.specs.Months.{month_in, month_at, difference_told}

module _ (a b : YearAnswer) (i : ℕ) where
  pub listed_both : i < a.count → i < b.count → is_listed a b i ≡ not (same_month a b i)
  unfolding is_listed
  listed_both p q = simp (lt-ltb i a.count p, lt-ltb i b.count q)

  pub listed_first : i < a.count → b.count ≤ i → is_listed a b i ≡ true
  unfolding is_listed
  listed_first p q = simp (lt-ltb i a.count p, le-ltb i b.count q)

  pub listed_second : a.count ≤ i → i < b.count → is_listed a b i ≡ true
  unfolding is_listed
  listed_second p q = simp (le-ltb i a.count p, lt-ltb i b.count q)

  pub listed_none : a.count ≤ i → b.count ≤ i → is_listed a b i ≡ false
  unfolding is_listed
  listed_none p q = simp (le-ltb i a.count p, le-ltb i b.count q)

  pub days_between : i < a.count → i < b.count → difference_at a b i ≡ Days (pos (head_in b i) -ℤ pos (head_in a i))
  unfolding difference_at
  days_between p q = simp (lt-ltb i a.count p, lt-ltb i b.count q)

  pub second_lacks : i < a.count → b.count ≤ i → difference_at a b i ≡ SecondLacks
  unfolding difference_at
  second_lacks p q = simp (lt-ltb i a.count p, le-ltb i b.count q)

  pub first_lacks : a.count ≤ i → difference_at a b i ≡ FirstLacks
  unfolding difference_at
  first_lacks p = simp (le-ltb i a.count p)

  pub by_months : {P : Type 0}
      → (i < a.count → i < b.count → P)
      → (i < a.count → b.count ≤ i → P)
      → (a.count ≤ i → i < b.count → P)
      → (a.count ≤ i → b.count ≤ i → P)
      → P
  by_months two one other none =
      by_order i a.count
      (λ p. by_order i b.count (two p) (one p))
      (λ p. by_order i b.count (other p) (none p))

  -- Two months are the same just when number, leap mark and head are.
  pub all_same : same_month a b i ≡ true → (number_in a i ≡ number_in b i) × (leap_in a i ≡ leap_in b i) × (head_in a i ≡ head_in b i)
  unfolding same_month
  all_same e =
      let two = both (eqb (number_in a i) (number_in b i) && eqb (leap_in a i) (leap_in b i)) (eqb (head_in a i) (head_in b i)) e in
      let one = both (eqb (number_in a i) (number_in b i)) (eqb (leap_in a i) (leap_in b i)) two.0 in
      (eqb-true _ _ one.0, eqb-true _ _ one.1, eqb-true _ _ two.1)

  pub some_differs : same_month a b i ≡ false
      → (number_in a i ≡ number_in b i → ⊥) ⊎ ((leap_in a i ≡ leap_in b i → ⊥) ⊎ (head_in a i ≡ head_in b i → ⊥))
  unfolding same_month
  some_differs e =
      by_bool (eqb (number_in a i) (number_in b i))
      (λ n.
      by_bool (eqb (leap_in a i) (leap_in b i))
      (λ l.
      by_bool (eqb (head_in a i) (head_in b i))
      (λ h. absurd (true≢false (sym (simp (n, l, h)) ∙ e)))
      (λ h. inr (inr (eqb-false _ _ h))))
      (λ l. inr (inl (eqb-false _ _ l))))
      (λ n. inl (eqb-false _ _ n))

all_three : (x y z : Bool) → x && (y && z) ≡ x && y && z
all_three true y z = refl
all_three false y z = refl

-- The month of a year at an index, by what the code has of it.
module _ (v : YearAnswer) (i : ℕ) {o : Option Month} (asked : o ≡ month_at v i) where
  month_there : {m : Month} → o ≡ Some m → (i < v.count) × (m ≡ month_in v i)
  month_there is =
      by_order i v.count
      (λ l. let e : month_at v i ≡ Some (month_in v i) = simp (lt-ltb i v.count l) in (l, cc (asked, is, e)))
      (λ l. let e : month_at v i ≡ None = simp (le-ltb i v.count l) in absurd (cc (asked, is, e)))

  no_month_there : o ≡ None → v.count ≤ i
  no_month_there is =
      by_order i v.count
      (λ l. let e : month_at v i ≡ Some (month_in v i) = simp (lt-ltb i v.count l) in absurd (cc (asked, is, e)))
      (λ l. l)

-- How two years differ there, by the months that the code has.
module _ (a b : YearAnswer) (i : ℕ) {o p : Option Month} (of_first : o ≡ month_at a i) (of_second : p ≡ month_at b i) where
  module _ {m n : Month} (first_is : o ≡ Some m) (second_is : p ≡ Some n) where
    listed_as : {x y : Month} {same : Bool} → x ≡ m → y ≡ n
        → same ≡ (eqb x.number y.number && (eqb x.leap y.leap && eqb x.head.0 y.head.0))
        → is_listed a b i ≡ not same
    unfolding same_month
    listed_as x_is y_is test =
        let f = month_there a i of_first first_is in
        let s = month_there b i of_second second_is in
        listed_both a b i f.0 s.0
        ∙ ap not
        (sym
        (test
        ∙ ap₂ (λ x y. eqb x.number y.number && (eqb x.leap y.leap && eqb x.head.0 y.head.0)) (x_is ∙ f.1) (y_is ∙ s.1)
        ∙ all_three (eqb (number_in a i) (number_in b i)) (eqb (leap_in a i) (leap_in b i)) (eqb (head_in a i) (head_in b i))))

    module _ {x y : Month} (x_is : x ≡ m) (y_is : y ≡ n) where
      pub told_same : true ≡ (eqb x.number y.number && (eqb x.leap y.leap && eqb x.head.0 y.head.0))
          → None ≡ difference_told a b i
      told_same test = simp (listed_as x_is y_is test)

      pub told_days : {d : Difference} {month other : Month} → false ≡ (eqb x.number y.number && (eqb x.leap y.leap && eqb x.head.0 y.head.0))
          → o ≡ Some month
          → p ≡ Some other
          → d ≡ Days (pos other.head.0 -ℤ pos month.head.0)
          → Some d ≡ difference_told a b i
      told_days test month_is other_is is =
          let f = month_there a i of_first month_is in
          let s = month_there b i of_second other_is in
          simp (listed_as x_is y_is test)
          (ap Some (is ∙ ap₂ (λ x y. Days (pos y.head.0 -ℤ pos x.head.0)) f.1 s.1 ∙ sym (days_between a b i f.0 s.0)))

  pub told_second_lacks : {m : Month} → o ≡ Some m → p ≡ None → Some SecondLacks ≡ difference_told a b i
  told_second_lacks is none =
      let x = (month_there a i of_first is).0 in
      let y = no_month_there b i of_second none in
      simp (listed_first a b i x y) (ap Some (sym (second_lacks a b i x y)))

  pub told_first_lacks : {n : Month} → o ≡ None → p ≡ Some n → Some FirstLacks ≡ difference_told a b i
  told_first_lacks none is =
      let x = no_month_there a i of_first none in
      let y = (month_there b i of_second is).0 in
      simp (listed_second a b i x y) (ap Some (sym (first_lacks a b i x)))

  pub told_none : o ≡ None → p ≡ None → None ≡ difference_told a b i
  told_none first_none second_none =
      simp (listed_none a b i (no_month_there a i of_first first_none) (no_month_there b i of_second second_none))
