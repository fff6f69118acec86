-- What the almanac prints of pentads, as bytes.
use Rattle.std.specs.Prelude.{ℕ, List, [], ◌∷◌, ◌++◌}
use Rattle.reckoning.specs.Requests.{pentad_of, pentad_in_force}
use Rattle.text.specs.Decimal.{decimal}
use Rattle.text.specs.Piece.{word, letter_of, title, line, told_unless}
use Rattle.pages.specs.StepLines.{step_lines}

-- "pentads "
abbrev pub pentads_word : List ℕ
pentads_word = 112 ∷ 101 ∷ 110 ∷ 116 ∷ 97 ∷ 100 ∷ 115 ∷ 32 ∷ []

-- "pentad"
abbrev pub pentad_word : List ℕ
pentad_word = 112 ∷ 101 ∷ 110 ∷ 116 ∷ 97 ∷ 100 ∷ []

-- The 72 pentads of a year, or the line of its refusal.
unfoldable pub pentads_page : ℕ → ℕ → List ℕ
pentads_page system year =
    told_unless (pentad_of system year 0).refusal (title pentads_word system year ++ step_lines pentad_word (pentad_of system year) 72)

-- A day, and the pentad in force at its end: the system's letter, the year, the pentad's number.
unfoldable pub in_force_line : ℕ → ℕ → ℕ → ℕ → List ℕ
in_force_line day system n pentad =
    decimal day ++ (word (32 ∷ letter_of system ∷ []) ++ line [] (n ∷ pentad ∷ []))

-- The pentad in force on a day, or the line of its refusal.
unfoldable pub pentad_line : ℕ → ℕ → List ℕ
pentad_line system day =
    let found = pentad_in_force system day in
    told_unless found.refusal (in_force_line day system found.year found.pentad)
