-- Where do the two systems part? Paper 02, Q-1, in the order of its sentences: what a comparison answers is so by the
-- reckoning, for all systems and years in scope; what is said of refusals, and the last laws, for every input.
use Prim.Native.Nat.{ℕ, ◌≤◌, ◌<◌}
use mathlib.Core.Path.{◌≡◌, sym, subst, ap, ◌∙◌}
use lib.IntN.{pos, ◌-ℤ◌}
use lib.ListN.{length}
use Rattle.calendar.specs.ExactlyOne.{ExactlyOne}
use Rattle.calendar.specs.Systems.{constants_of, years_elapsed}
use Rattle.calendar.specs.Year.{Span, month_count}
use Rattle.reckoning.specs.Scope.{InScope}
use Rattle.reckoning.specs.WordedRefusals.{FirstOf}
use Rattle.comparison.specs.Answers.{ComparisonAnswer}
use Rattle.comparison.specs.declared.data.Difference.TheVariants.{Days, FirstLacks, SecondLacks}
use Rattle.comparison.specs.Comparisons.{comparison_refusal, comparison_of}
use Rattle.comparison.specs.WhereSystemsDiffer.{MonthAt, NoMonthAt, SystemsDiffer, EachSays, ZerosFrom}
use Rattle.comparison.specs.WhereSystemsDiffer.{place_in, difference_in, ListsAs, comparison_rows}
use Rattle.comparison.specs.Swapped.{swapped}
use Rattle.comparison.proofs.MonthsCompared as Months
use Rattle.comparison.proofs.Entries as Entries
use Rattle.comparison.proofs.SaysCases as Cases
use Rattle.comparison.proofs.Refusals as Refused
use Rattle.comparison.proofs.Itself as Itself
use Rattle.comparison.proofs.Swapping as Swapping

-- Each place from 1 up to how many months the year has is its month in that order, and there is no other.
module _ (system year : ℕ) (s : InScope system year) (y : Span (constants_of system) (years_elapsed (constants_of system) year)) where
  pub has_its_months : (place : ℕ) → 1 ≤ place → place ≤ month_count y → MonthAt system year place
  has_its_months = Months.has_its_months system year s y

  pub has_no_other : (place : ℕ) → month_count y < place → NoMonthAt system year place
  has_no_other = Months.has_no_other system year s y

module _ (first second year : ℕ) (s : InScope first year) (t : InScope second year) where
  abbrev v : ComparisonAnswer
  v = comparison_of first second year

  -- Each place from the first to the thirteenth is listed exactly when the two months differ in number, leap mark or
  -- head, or when only one system has it: what is listed differs so,
  pub differ_where_listed : (i : ℕ) → i < v.count → SystemsDiffer first second year (place_in v i)
  differ_where_listed = Entries.differ_where_listed first second year s t

  -- and what differs so is listed, just once,
  pub listed_where_differ : (place : ℕ) → SystemsDiffer first second year place → ExactlyOne (ListsAs v place)
  listed_where_differ = Entries.listed_where_differ first second year s t

  -- in order,
  pub in_rising_order : (i j : ℕ) → i < j → j < v.count → place_in v i < place_in v j
  in_rising_order = Entries.in_rising_order first second year s t

  -- none past the thirteenth.
  pub first_to_thirteenth : (i : ℕ) → i < v.count → (1 ≤ place_in v i) × (place_in v i ≤ 13)
  first_to_thirteenth = Entries.first_to_thirteenth first second year s t

  pub thirteen_at_most : v.count ≤ 13
  thirteen_at_most = Entries.thirteen_at_most first second year s t

  -- Where both exist it states the head of the second minus the head of the first, a signed count of days;
  pub both_exist : (i : ℕ) → i < v.count → (m : MonthAt first year (place_in v i)) → (n : MonthAt second year (place_in v i))
      → difference_in v i ≡ Days (pos n.head -ℤ pos m.head)
  both_exist i h = Cases.case_of_both first second year s t (place_in v i) (difference_in v i) (Entries.each_says first second year i h)

  -- where one is missing, it says which.
  pub first_missing : (i : ℕ) → i < v.count → NoMonthAt first year (place_in v i) → difference_in v i ≡ FirstLacks
  first_missing i h = Cases.case_first_lacks first second year s t (place_in v i) (difference_in v i) (Entries.each_says first second year i h)

  pub second_missing : (i : ℕ) → i < v.count → NoMonthAt second year (place_in v i) → difference_in v i ≡ SecondLacks
  second_missing i h = Cases.case_second_lacks first second year s t (place_in v i) (difference_in v i) (Entries.each_says first second year i h)

  -- It carries no refusal, and after what it lists are zeros.
  pub not_refused : v.refusal ≡ 0
  not_refused = Entries.not_refused first second year s t

  pub thirteen_entries : length v.places ≡ 13
  thirteen_entries = Entries.thirteen_entries first second year s t

  pub unused_are_zeros : ZerosFrom v v.count
  unused_are_zeros = Entries.unused_are_zeros first second year s t

-- Whatever is asked, what is said of a place is what its case stands for. So where days are told, the second head is the
-- first head and those days, as integers.
pub says_what_it_stands_for : (first second year : ℕ) → EachSays first second year (comparison_of first second year)
says_what_it_stands_for = Entries.each_says

-- Either system wrong is refused 4 (SYSTEM), then the year 5 (YEAR), and the answer carries that number;
pub refusal_is_the_first : (first second year : ℕ)
    → FirstOf (comparison_rows first second year) (comparison_of first second year).refusal
refusal_is_the_first first second year =
    subst (FirstOf (comparison_rows first second year)) (sym (Refused.carries first second year))
    (Refused.refusal_first first second year)

-- refused, it lists nothing.
pub refused_lists_nothing : (first second year : ℕ) → ((comparison_of first second year).refusal ≡ 0 → ⊥)
    → ((comparison_of first second year).count ≡ 0) × ZerosFrom (comparison_of first second year) 0
refused_lists_nothing first second year some =
    let blank = Refused.blank first second year (λ z. some (Refused.carries first second year ∙ z)) in
    (ap (λ v. v.count) blank, subst (λ v. ZerosFrom v 0) (sym blank) (Entries.blank_zeros (comparison_refusal first second year)))

-- A system compared with itself lists nothing.
pub itself_lists_nothing : (system year : ℕ)
    → ((comparison_of system system year).count ≡ 0) × ZerosFrom (comparison_of system system year) 0
itself_lists_nothing system year =
    let blank = Itself.itself_lists_nothing system year in
    (ap (λ v. v.count) blank, subst (λ v. ZerosFrom v 0) (sym blank) (Entries.blank_zeros (comparison_refusal system system year)))

-- Two systems compared the other way round: the sign of each difference changes, which of the two lacks a month is
-- exchanged, and nothing else changes.
pub the_other_way_round : (first second year : ℕ) → comparison_of second first year ≡ swapped (comparison_of first second year)
the_other_way_round = Swapping.swapped_answer
