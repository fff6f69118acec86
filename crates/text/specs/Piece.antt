-- The pieces that lines are made of, as bytes: 32 is ' ', 42 '*', 45 '-', 10 ends a line.
use Rattle.std.specs.Prelude.{ℕ, zero, suc, Option, None, Some, cond, List, [], ◌∷◌, ◌++◌, eqb, get_or}
use Rattle.text.specs.Decimal.{decimal}

-- A word, as its bytes.
unfoldable pub word : List ℕ → List ℕ
word bytes = bytes

-- A space and a number.
unfoldable pub field : ℕ → List ℕ
field n = 32 ∷ decimal n

-- A word and a number after it.
unfoldable pub numbered : List ℕ → ℕ → List ℕ
numbered bytes n = word bytes ++ field n

-- A field for each number, in order.
unfoldable pub fields : List ℕ → List ℕ
fields [] = []
fields (n ∷ numbers) = field n ++ fields numbers

abbrev pub newline : List ℕ
newline = 10 ∷ []

-- A line: a word, and a field for each number.
abbrev pub line : List ℕ → List ℕ → List ℕ
line bytes numbers = word bytes ++ (fields numbers ++ newline)

-- The last field of a line: a space and a number, or '-' where there is none; and the line's end.
unfoldable pub last_field : Option ℕ → List ℕ
last_field None = 32 ∷ 45 ∷ newline
last_field (Some n) = field n ++ newline

-- The letters of the systems, in the order of their numbers: G of Guantian, J of Jiyuan, W of Jingchu.
abbrev pub letters : List ℕ
letters = 71 ∷ 74 ∷ 87 ∷ []

-- The letter of a system; '?' of a number that is no system's.
abbrev pub letter_of : ℕ → ℕ
letter_of system = get_or (63 ∷ letters) system 63

-- A year of a system: its letter and the year.
unfoldable pub year : ℕ → ℕ → List ℕ
year system n = (letter_of system ∷ []) ++ field n

-- The first line of a page: a word, with the space after it, and a year of a system.
unfoldable pub title : List ℕ → ℕ → ℕ → List ℕ
title bytes system n = word bytes ++ (year system n ++ newline)

-- '*' after a leap month's number.
abbrev pub star : ℕ → List ℕ
star leap = cond (eqb leap 0) [] (42 ∷ [])

-- A month: a space, its number, and a star directly after it if leap.
unfoldable pub month : ℕ → ℕ → List ℕ
month number leap = field number ++ star leap

-- "refused"
abbrev pub refused_word : List ℕ
refused_word = 114 ∷ 101 ∷ 102 ∷ 117 ∷ 115 ∷ 101 ∷ 100 ∷ []

-- and numbers:
abbrev pub refused_with : List ℕ → List ℕ
refused_with numbers = line refused_word numbers

-- a refusal's,
abbrev pub refused_line : ℕ → List ℕ
refused_line number = refused_with (number ∷ [])

-- and the month that it tells.
abbrev pub refused_telling_line : ℕ → ℕ → List ℕ
refused_telling_line number told = refused_with (number ∷ told ∷ [])

-- What is told of an answer; of one that is refused, the line of its refusal.
abbrev pub told_unless : ℕ → List ℕ → List ℕ
told_unless refusal text = cond (eqb refusal 0) text (refused_line refusal)

-- The texts 0 to n - 1, in order.
unfoldable pub texts_up_to : (ℕ → List ℕ) → ℕ → List ℕ
texts_up_to text zero = []
texts_up_to text (suc n) = texts_up_to text n ++ text n
