-- The lines of a year's equal steps, its qi or its pentads, as bytes.
use Rattle.std.specs.Prelude.{ℕ, List, [], ◌∷◌}
use Rattle.calendar.specs.SixtyDayName.{name_of}
use Rattle.reckoning.specs.Answers.{MomentAnswer}
use Rattle.text.specs.Piece.{line, texts_up_to}

-- What is told of a step: its number from 0, its day with its name, parts, units.
abbrev pub moment_numbers : ℕ → MomentAnswer → List ℕ
moment_numbers i m = i ∷ m.day.0 ∷ name_of m.day.0 ∷ m.parts ∷ m.units ∷ []

-- The line of step i, by the word before it, "qi" or "pentad", and its moment.
abbrev pub step_line : List ℕ → ℕ → MomentAnswer → List ℕ
step_line word i m = line word (moment_numbers i m)

-- That of step i of those that have these moments.
abbrev pub step_at : List ℕ → (ℕ → MomentAnswer) → ℕ → List ℕ
step_at word moments i = step_line word i (moments i)

-- So many steps, from the first on.
unfoldable pub step_lines : List ℕ → (ℕ → MomentAnswer) → ℕ → List ℕ
step_lines word moments count = texts_up_to (step_at word moments) count
