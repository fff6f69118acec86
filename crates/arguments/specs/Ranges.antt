-- The numbers of a range.
use Rattle.std.specs.Prelude.{ℕ, ◌+◌, ◌-◌, min, cond, ◌&&◌, List, leb, length, get_or, Option, Some, None}
use Rattle.text.specs.Decimal.{digit, number_of}
use Rattle.arguments.specs.Number.{most, is_number}
use Rattle.arguments.specs.declared.ranges.Range.{Range}

-- No range is told to be longer: to print one would take centuries.
abbrev pub longest : ℕ
longest = 1_000_000_000_000_000_000

-- The digit of a number at a place counted from 0 for the last digit; noughts stand before the first.
abbrev pub digit_at : List ℕ → ℕ → ℕ
digit_at text place = cond (leb (length text) place) 0 (get_or text (length text - 1 - place) 0 - digit 0)

-- From the first number to the last, both counted; none where the last is before the first.
abbrev pub count_of : List ℕ → List ℕ → ℕ
count_of first last = min longest (number_of last + 1 - number_of first)

unfoldable pub range_of : List ℕ → List ℕ → Option Range
range_of first last =
    cond (is_number first && is_number last) (Some (record { first = min most (number_of first); count = count_of first last })) None
