-- The page that the almanac prints for a comparison: its lines, as bytes.
use Rattle.std.specs.Prelude.{ℕ, suc, ◌-◌, cond, List, [], ◌∷◌, ◌++◌, ℤ, pos, negsuc, get_or}
use Rattle.reckoning.specs.Answers.{YearAnswer}
use Rattle.reckoning.specs.Requests.{year_of}
use Rattle.reckoning.specs.YearValue.{head_in, number_in, leap_in}
use Rattle.comparison.specs.Answers.{ComparisonAnswer}
use Rattle.comparison.specs.declared.data.Difference.{Difference}
use Rattle.comparison.specs.declared.data.Difference.TheVariants.{Days, FirstLacks, SecondLacks}
use Rattle.comparison.specs.declared.data.Listed.{Listed}
use Rattle.comparison.specs.Comparisons.{has_month, unused, comparison_of}
use Rattle.text.specs.Decimal.{decimal}
use Rattle.text.specs.Piece.{word, field, letter_of, year, month, numbered, newline, line, told_unless, texts_up_to}

-- "compare ", and the letter of the first system with a space after it.
unfoldable pub line_start : ℕ → List ℕ
line_start first = word (99 ∷ 111 ∷ 109 ∷ 112 ∷ 97 ∷ 114 ∷ 101 ∷ 32 ∷ []) ++ word (letter_of first ∷ 32 ∷ [])

-- The letters of both systems, the year, and how many places follow.
unfoldable pub compare_line : ℕ → ℕ → ℕ → ℕ → List ℕ
compare_line first second n places = line_start first ++ (year second n ++ line [] (places ∷ []))

-- The month at index i, from 0: its number, '*' directly after it if leap, and its head; " - -" where there is none.
unfoldable pub month_text : YearAnswer → ℕ → List ℕ
month_text months i =
    cond (has_month months i)
    (month (number_in months i) (leap_in months i) ++ field (head_in months i))
    (word (32 ∷ 45 ∷ 32 ∷ 45 ∷ []))

unfoldable pub month_texts : YearAnswer → YearAnswer → ℕ → List ℕ
month_texts first second i = month_text first i ++ month_text second i

-- A space and a number of days, '-' directly before it where negative.
unfoldable pub days_text : ℤ → List ℕ
days_text (pos n) = field n
days_text (negsuc n) = word (32 ∷ 45 ∷ []) ++ decimal (suc n)

-- The days, or " first" or " second", the system that lacks a month.
unfoldable pub difference_text : Difference → List ℕ
difference_text (Days days) = days_text days
difference_text FirstLacks = word (32 ∷ 102 ∷ 105 ∷ 114 ∷ 115 ∷ 116 ∷ [])
difference_text SecondLacks = word (32 ∷ 115 ∷ 101 ∷ 99 ∷ 111 ∷ 110 ∷ 100 ∷ [])

unfoldable pub line_end : Difference → List ℕ
line_end difference = difference_text difference ++ word newline

-- "place", its number, the month of each system, and how they differ.
unfoldable pub place_line : YearAnswer → YearAnswer → Listed → List ℕ
place_line first second listed =
    numbered (112 ∷ 108 ∷ 97 ∷ 99 ∷ 101 ∷ []) listed.place
    ++ (month_texts first second (listed.place - 1) ++ line_end listed.difference)

-- The i-th line of a place, from 0.
abbrev pub place_at : YearAnswer → YearAnswer → ComparisonAnswer → ℕ → List ℕ
place_at first second compared i = place_line first second (get_or compared.places i unused)

unfoldable pub place_lines : YearAnswer → YearAnswer → ComparisonAnswer → List ℕ
place_lines first second compared = texts_up_to (place_at first second compared) compared.count

-- The page of a comparison, or the line of its refusal.
unfoldable pub comparison_page : ℕ → ℕ → ℕ → List ℕ
comparison_page first second n =
    let compared = comparison_of first second n in
    told_unless compared.refusal
    (compare_line first second n compared.count ++ place_lines (year_of first n) (year_of second n) compared)
