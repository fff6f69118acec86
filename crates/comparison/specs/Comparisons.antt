-- What a comparison answers, for every input: paper 02, Q-1.
use Rattle.std.specs.Prelude.{ℕ, zero, suc, ◌+◌, ◌-◌, Bool, cond, not, ◌&&◌, ◌||◌, List, [], ◌∷◌, ◌++◌, ltb, eqb, pos, ◌-ℤ◌, length, replicate}
use Rattle.reckoning.specs.Answers.{YearAnswer}
use Rattle.reckoning.specs.ComputedRefusals as Rules
use Rattle.reckoning.specs.ComputedRefusals.{wrong_system, wrong_year}
use Rattle.reckoning.specs.Requests.{year_of}
use Rattle.reckoning.specs.YearValue.{head_in, number_in, leap_in}
use Rattle.comparison.specs.Answers.{ComparisonAnswer}
use Rattle.comparison.specs.declared.data.Difference.{Difference}
use Rattle.comparison.specs.declared.data.Difference.TheVariants.{Days, FirstLacks, SecondLacks}
use Rattle.comparison.specs.declared.data.Listed.{Listed}

-- Refused SYSTEM for either system, then YEAR.
unfoldable pub comparison_refusal : ℕ → ℕ → ℕ → ℕ
comparison_refusal first second year = Rules.first (wrong_system first ∷ wrong_system second ∷ wrong_year year ∷ [])

-- A year has a month at index i, from 0 as in the value of a year: at place i + 1.
abbrev pub has_month : YearAnswer → ℕ → Bool
has_month months i = ltb i months.count

-- Two months at one place have the same number, leap mark and head.
unfoldable pub same_month : YearAnswer → YearAnswer → ℕ → Bool
same_month first second i =
    eqb (number_in first i) (number_in second i)
    && eqb (leap_in first i) (leap_in second i)
    && eqb (head_in first i) (head_in second i)

-- A place is listed where both have a month and these are not the same, or where one alone has a month.
unfoldable pub is_listed : YearAnswer → YearAnswer → ℕ → Bool
is_listed first second i =
    cond (has_month first i && has_month second i) (not (same_month first second i)) (has_month first i || has_month second i)

-- The case of a place that is listed: the second head less the first, or which of the two has no month there.
unfoldable pub difference_at : YearAnswer → YearAnswer → ℕ → Difference
difference_at first second i =
    cond (has_month first i)
    (cond (has_month second i) (Days (pos (head_in second i) -ℤ pos (head_in first i))) SecondLacks)
    FirstLacks

-- The entry of a place, which is told from 1.
abbrev pub listed_at : YearAnswer → YearAnswer → ℕ → Listed
listed_at first second i = record { place = i + 1; difference = difference_at first second i }

-- The places listed of the first n, in order.
unfoldable pub places_up_to : YearAnswer → YearAnswer → ℕ → List Listed
places_up_to first second zero = []
places_up_to first second (suc n) = places_up_to first second n ++ cond (is_listed first second n) (listed_at first second n ∷ []) []

-- An entry that is not used: zeros.
abbrev pub unused : Listed
unused = record { place = 0; difference = Days (pos 0) }

-- Thirteen entries: those of the places listed, and unused ones after them.
abbrev pub thirteen : List Listed → List Listed
thirteen places = places ++ replicate (13 - length places) unused

-- Two years compared.
unfoldable pub listing : YearAnswer → YearAnswer → ComparisonAnswer
listing first second =
    let places = places_up_to first second 13 in
    record { refusal = 0; count = length places; places = thirteen places }

-- Nothing listed, with a refusal's number.
abbrev pub no_comparison : ℕ → ComparisonAnswer
no_comparison refusal = record { refusal = refusal; count = 0; places = replicate 13 unused }

-- Two systems compared in a year.
unfoldable pub comparison_of : ℕ → ℕ → ℕ → ComparisonAnswer
comparison_of first second year =
    let refusal = comparison_refusal first second year in
    cond (eqb refusal 0) (listing (year_of first year) (year_of second year)) (no_comparison refusal)
