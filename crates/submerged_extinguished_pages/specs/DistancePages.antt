-- The pages that the almanac prints of submerged and extinguished days: their lines, as bytes.
use Rattle.std.specs.Prelude.{ℕ, ◌+◌, List, [], ◌∷◌, ◌++◌, get_or, Option}
use Rattle.submerged_extinguished.specs.declared.data.DayDistance.{DayDistance}
use Rattle.submerged_extinguished.specs.Records.{DayAnswer, MoonsAnswer}
use Rattle.submerged_extinguished.specs.Answers.{unused, submerged_of, extinguished_days_of}
use Rattle.text.specs.Piece.{field, title, numbered, last_field, told_unless, texts_up_to}

-- A word, a number, the day of a qi or new moon, and the distance, '-' for none.
unfoldable pub distance_line : List ℕ → ℕ → ℕ → Option ℕ → List ℕ
distance_line bytes number day distance = numbered bytes number ++ (field day ++ last_field distance)

-- A page: its first line and those of its answers; or the line of its refusal.
unfoldable pub page_with : List ℕ → ℕ → ℕ → ℕ → List ℕ → List ℕ
page_with bytes system year refusal lines = told_unless refusal (title bytes system year ++ lines)

-- "qi", its number, its day, and the distance of its submerged day.
abbrev pub qi_told : ℕ → DayAnswer → List ℕ
qi_told i v = distance_line (113 ∷ 105 ∷ []) i v.day.0 v.distance

abbrev pub qi_line : ℕ → ℕ → ℕ → List ℕ
qi_line system year i = qi_told i (submerged_of system year i)

-- Qi 0 to 24.
unfoldable pub qi_lines : ℕ → ℕ → List ℕ
qi_lines system year = texts_up_to (qi_line system year) 25

-- "submerged "
abbrev pub submerged_word : List ℕ
submerged_word = 115 ∷ 117 ∷ 98 ∷ 109 ∷ 101 ∷ 114 ∷ 103 ∷ 101 ∷ 100 ∷ 32 ∷ []

-- The submerged days of a year, or the line of its refusal, which each answer carries.
abbrev pub submerged_page : ℕ → ℕ → List ℕ
submerged_page system year =
    page_with submerged_word system year (submerged_of system year 0).refusal (qi_lines system year)

-- "moon", its place from 1, its day, and the distance of its extinguished day.
abbrev pub moon_line : ℕ → DayDistance → List ℕ
moon_line place moon = distance_line (109 ∷ 111 ∷ 111 ∷ 110 ∷ []) place moon.day.0 moon.distance

-- That of the i-th new moon, from 0.
abbrev pub moon_line_at : MoonsAnswer → ℕ → List ℕ
moon_line_at days i = moon_line (i + 1) (get_or days.moons i unused)

unfoldable pub moon_lines : MoonsAnswer → List ℕ
moon_lines days = texts_up_to (moon_line_at days) days.count

-- "extinguished "
abbrev pub extinguished_word : List ℕ
extinguished_word = 101 ∷ 120 ∷ 116 ∷ 105 ∷ 110 ∷ 103 ∷ 117 ∷ 105 ∷ 115 ∷ 104 ∷ 101 ∷ 100 ∷ 32 ∷ []

-- The extinguished days of a year, or the line of its refusal.
abbrev pub extinguished_page : ℕ → ℕ → List ℕ
extinguished_page system year =
    let days = extinguished_days_of system year in
    page_with extinguished_word system year days.refusal (moon_lines days)
