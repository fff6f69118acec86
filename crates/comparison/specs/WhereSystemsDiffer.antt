-- Where two systems differ in a year, by the reckoning: paper 02, Q-1, in its words.
use Rattle.std.specs.Prelude.{ℕ, ◌+◌, ◌-◌, ◌≤◌, ◌<◌, ◌≡◌, ◌⊎◌, List, [], ◌∷◌, ℤ, pos, ◌+ℤ◌, get_or}
use Rattle.calendar.specs.Systems.{constants_of, years_elapsed, IsRegisterDay}
use Rattle.calendar.specs.Month.{month_head, Bears, Marked}
use Rattle.calendar.specs.Year.{Span, month_count}
use Rattle.reckoning.specs.RefusalNumbers.{SYSTEM, YEAR}
use Rattle.reckoning.specs.Scope.{SystemInScope, YearInScope}
use Rattle.reckoning.specs.WordedRefusals.{Row, ◌when◌}
use Rattle.comparison.specs.Answers.{ComparisonAnswer}
use Rattle.comparison.specs.declared.data.Difference.{Difference}
use Rattle.comparison.specs.declared.data.Difference.TheVariants.{Days, FirstLacks, SecondLacks}
use Rattle.comparison.specs.Comparisons.{unused}

-- Place p of a year, from 1, is its p-th month, counted from the month that the year begins with (place is the customer's
-- own term). It has that month's number, leap mark and head, which is told as a register day.
pub record MonthAt (system year place : ℕ) : Type 0 where
  pub span : Span (constants_of system) (years_elapsed (constants_of system) year)
  pub from_first : 1 ≤ place
  pub to_last : place ≤ month_count span
  pub number : ℕ
  pub leap : ℕ
  pub head : ℕ
  pub bears : Bears (constants_of system) (span.first + place - 1) number
  pub marked : Marked (constants_of system) (span.first + place - 1) leap
  pub head_is : IsRegisterDay (constants_of system) head (month_head (constants_of system) (span.first + place - 1))

-- The year has no month there.
abbrev pub NoMonthAt : ℕ → ℕ → ℕ → Type 0
NoMonthAt system year place = MonthAt system year place → ⊥

-- Two months differ in number, leap mark or head.
abbrev pub Unlike : {first second year place : ℕ} → MonthAt first year place → MonthAt second year place → Type 0
Unlike m n = (m.number ≡ n.number → ⊥) ⊎ ((m.leap ≡ n.leap → ⊥) ⊎ (m.head ≡ n.head → ⊥))

-- Two systems differ at a place: their two months do, or only one system has a month there. To part is the customer's
-- word for it.
pub data SystemsDiffer (first second year place : ℕ) : Type 0 where
  months_unlike : (m : MonthAt first year place) → (n : MonthAt second year place) → Unlike m n
      → SystemsDiffer first second year place
  first_alone : MonthAt first year place → NoMonthAt second year place → SystemsDiffer first second year place
  second_alone : NoMonthAt first year place → MonthAt second year place → SystemsDiffer first second year place

-- Both have a month there, and the head of the second is the head of the first and so many days, as integers.
pub record DaysApart (first second year place : ℕ) (days : ℤ) : Type 0 where
  pub of_first : MonthAt first year place
  pub of_second : MonthAt second year place
  pub apart : pos of_second.head ≡ pos of_first.head +ℤ days

-- What each case of the answer stands for.
abbrev pub Says : ℕ → ℕ → ℕ → ℕ → Difference → Type 0
Says first second year place (Days days) = DaysApart first second year place days
Says first second year place FirstLacks = NoMonthAt first year place × MonthAt second year place
Says first second year place SecondLacks = MonthAt first year place × NoMonthAt second year place

-- The answer's i-th entry, from 0: the place that it lists, and how the systems differ there.
abbrev pub place_in : ComparisonAnswer → ℕ → ℕ
place_in v i = (get_or v.places i unused).place

abbrev pub difference_in : ComparisonAnswer → ℕ → Difference
difference_in v i = (get_or v.places i unused).difference

-- The answer lists a place as its i-th.
abbrev pub ListsAs : ComparisonAnswer → ℕ → ℕ → Type 0
ListsAs v place i = (i < v.count) × (place_in v i ≡ place)

-- Each place listed has the case that it should.
abbrev pub EachSays : ℕ → ℕ → ℕ → ComparisonAnswer → Type 0
EachSays first second year v = (i : ℕ) → i < v.count → Says first second year (place_in v i) (difference_in v i)

-- From entry i on the answer has zeros: no place and no days.
abbrev pub ZerosFrom : ComparisonAnswer → ℕ → Type 0
ZerosFrom v i = (j : ℕ) → i ≤ j → (place_in v j ≡ 0) × (difference_in v j ≡ Days (pos 0))

-- The table of refusals: either system wrong, then the year.
abbrev pub comparison_rows : ℕ → ℕ → ℕ → List Row
comparison_rows first second year =
    SYSTEM when ((SystemInScope first → ⊥) ⊎ (SystemInScope second → ⊥)) ∷ YEAR when (YearInScope year → ⊥) ∷ []
