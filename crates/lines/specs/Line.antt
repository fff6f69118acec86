-- The line that the program writes for a record: paper 01, "The program".
use Rattle.std.specs.Prelude.{ℕ, cond, List, [], ◌∷◌, ◌++◌, eqb}
use Rattle.calendar.specs.SixtyDayName.{name_of}
use Rattle.reckoning.specs.RefusalNumbers.{LEAP}
use Rattle.text.specs.Piece.{year, month, line, refused_line, refused_telling_line}
use Rattle.citation.specs.Record.{system_of, year_field, month_field, leap_field, day_field}
use Rattle.citation.specs.Store.{judge_of}

-- System letter, year, month, with '*' after it if leap, day, register day, name.
abbrev pub words : ℕ → ℕ → ℕ → ℕ → ℕ → ℕ → ℕ → List ℕ
words system n number leap day r name = year system n ++ (month number leap ++ line [] (day ∷ r ∷ name ∷ []))

-- The line of register day r on a date of a system.
abbrev pub day_line : ℕ → ℕ → ℕ → ℕ → ℕ → ℕ → List ℕ
day_line system year month leap day r = words system year month leap day r (name_of r)

-- The line of a stored record and the register day that it names.
unfoldable pub stored_line : List ℕ → ℕ → List ℕ
stored_line s r = day_line (system_of s) (year_field s) (month_field s) (leap_field s) (day_field s) r

-- The line of a refusal: paper 02, Q-3, LEAP with the month that it tells.
abbrev pub refusal_line : ℕ → ℕ → List ℕ
refusal_line number told = cond (eqb number LEAP) (refused_telling_line number told) (refused_line number)

-- The line of a record.
unfoldable pub line_of : List ℕ → List ℕ
line_of s =
    let j = judge_of s in
    cond (eqb j.refusal 0) (stored_line j.stored j.day.0) (refusal_line j.refusal j.told)
