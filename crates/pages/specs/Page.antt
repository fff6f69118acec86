-- The page that the almanac prints for a year: its lines, as bytes.
use Rattle.std.specs.Prelude.{ℕ, ◌+◌, ◌-◌, Option, None, Some, cond, List, [], ◌∷◌, ◌++◌, eqb, get_or}
use Rattle.calendar.specs.SixtyDayName.{name_of}
use Rattle.calendar.specs.Month.{none_held}
use Rattle.reckoning.specs.Answers.{YearAnswer, SheetAnswer}
use Rattle.reckoning.specs.Requests.{qi_of, year_of, sheet_of, days_of}
use Rattle.reckoning.specs.YearValue.{head_in, number_in, leap_in, remainder_in, held_in}
use Rattle.text.specs.Piece.{word, field, year, month, numbered, line, last_field, told_unless, texts_up_to}
use Rattle.pages.specs.declared.months.ToldMonth.{ToldMonth}
use Rattle.pages.specs.StepLines.{step_lines}

-- "year ", then letter and year, how many months and days.
unfoldable pub year_line : ℕ → ℕ → ℕ → ℕ → List ℕ
year_line system n months days = word (121 ∷ 101 ∷ 97 ∷ 114 ∷ 32 ∷ []) ++ (year system n ++ line [] (months ∷ days ∷ []))

-- What is told of the month at index i, from 0: its place from 1, number and leap mark, its head with its name, how many
-- days it has, the remainder of its new moon, and the index of the middle qi that it holds, or the mark of none.
unfoldable pub told_month : YearAnswer → ℕ → ToldMonth
told_month months i =
    let head = head_in months i in
    record {
      place = i + 1;
      number = number_in months i;
      leap = leap_in months i;
      head = head;
      name = name_of head;
      days = head_in months (i + 1) - head;
      remainder = remainder_in months i;
      held = held_in months i;
    }

-- The index of the middle qi that a month holds, if it holds one.
abbrev pub held_qi : ℕ → Option ℕ
held_qi held = cond (eqb held none_held) None (Some held)

-- "month", place, number, '*' directly after it if leap, head and its name;
unfoldable pub month_start : ToldMonth → List ℕ
month_start m =
    numbered (109 ∷ 111 ∷ 110 ∷ 116 ∷ 104 ∷ []) m.place
    ++ (month m.number m.leap ++ (field m.head ++ field m.name))

-- then days, remainder and the index of the middle qi held, '-' for none.
unfoldable pub month_line : ToldMonth → List ℕ
month_line m =
    month_start m ++ (field m.days ++ (field m.remainder ++ last_field (held_qi m.held)))

-- The line of the month at index i.
abbrev pub month_at : YearAnswer → ℕ → List ℕ
month_at months i = month_line (told_month months i)

unfoldable pub month_lines : YearAnswer → List ℕ
month_lines months = texts_up_to (month_at months) months.count

-- "next" and the head of the next year.
unfoldable pub next_line : YearAnswer → List ℕ
next_line months = line (110 ∷ 101 ∷ 120 ∷ 116 ∷ []) (head_in months months.count ∷ [])

-- The name of day i, from 0.
abbrev pub name_at : SheetAnswer → ℕ → List ℕ
name_at sheet i = field (get_or sheet.names i 0)

unfoldable pub sheet_names : SheetAnswer → ℕ → List ℕ
sheet_names sheet days = texts_up_to (name_at sheet) days

-- "names" and the names of a year's days.
unfoldable pub names_line : SheetAnswer → ℕ → List ℕ
names_line sheet days = word (110 ∷ 97 ∷ 109 ∷ 101 ∷ 115 ∷ []) ++ (sheet_names sheet days ++ word (10 ∷ []))

-- "qi"
abbrev pub qi_word : List ℕ
qi_word = 113 ∷ 105 ∷ []

-- The lines of a year that has these months and so many days, named on the sheet. Its qi are those from 0 to 24.
unfoldable pub year_lines : ℕ → ℕ → YearAnswer → ℕ → SheetAnswer → List ℕ
year_lines system year months days sheet =
    year_line system year months.count days
    ++ (step_lines qi_word (qi_of system year) 25 ++ (month_lines months ++ (next_line months ++ names_line sheet days)))

-- The page of a year, or the line of its refusal.
unfoldable pub page_of : ℕ → ℕ → List ℕ
page_of system year =
    let months = year_of system year in
    let days = (days_of system year).length in
    told_unless months.refusal (year_lines system year months days (sheet_of system year))
