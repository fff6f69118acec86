-- Runs, computed: the one that paper 01 shows, as paper 02, Q-2 and Q-7, have it (the four records of case 9 and a byte 00), and
-- records that paper 02, Q-3, refuses.
use mathlib.Core.Path.{◌≡◌, refl}
use mathlib.Core.List.{List, [], ◌∷◌, ◌++◌}
use Prim.Native.Nat.{ℕ}
use Rattle.calendar.specs.LeapMonth.{last_leap}
use Rattle.reckoning.specs.ComputedRefusals.{year_refusal}
use Rattle.reckoning.specs.Requests.{ordinal_day_of, ordinal_day_in, month_of, month_in, date_of, date_in}
use Rattle.citation.specs.Store.{judge_register_day, judge_ordinal, judge_day, judge_name, judge_kind, length_right, judge_of}
use Rattle.text.specs.Decimal.{decimal}
use Rattle.text.specs.Piece.{word, field, fields, year, month}
use Rattle.lines.specs.Line.{line_of, stored_line}
use Rattle.framing.specs.Framing.{framing_within}
use Rattle.framing.specs.Run.{text_of}
use Rattle.lines.specs.Program.{output_of}

abbrev pub case_9 : List ℕ
case_9 =
    (0x0A ∷ 0x00 ∷ 0x01 ∷ 0x00 ∷ 0x01 ∷ 0x46 ∷ 0x04 ∷ 0x05 ∷ 0x00 ∷ 0x01 ∷ [])
    ++ (0x0A ∷ 0x00 ∷ 0x05 ∷ 0x00 ∷ 0x01 ∷ 0x46 ∷ 0x04 ∷ 0x05 ∷ 0x00 ∷ 0x26 ∷ [])
    ++ (0x09 ∷ 0x00 ∷ 0x03 ∷ 0x00 ∷ 0x01 ∷ 0x46 ∷ 0x04 ∷ 0xD0 ∷ 0x00 ∷ [])
    ++ (0x09 ∷ 0x00 ∷ 0x04 ∷ 0x00 ∷ 0x01 ∷ 0x68 ∷ 0x5C ∷ 0x20 ∷ 0x00 ∷ [])

-- "G 1094 5 1 2120808 38"
abbrev pub day_line_lem : List ℕ
day_line_lem =
    71 ∷ 32 ∷ 49 ∷ 48 ∷ 57 ∷ 52 ∷ 32 ∷ 53 ∷ 32 ∷ 49 ∷ 32 ∷ 50 ∷ 49 ∷ 50 ∷ 48 ∷ 56 ∷ 48 ∷ 56 ∷ 32 ∷ 51 ∷ 56 ∷ 10 ∷ []

-- "refused " and more
abbrev refused : List ℕ → List ℕ
refused rest = 114 ∷ 101 ∷ 102 ∷ 117 ∷ 115 ∷ 101 ∷ 100 ∷ 32 ∷ rest

-- "refused 1"
abbrev pub last_line : List ℕ
last_line = refused (49 ∷ 10 ∷ [])

pub shown_run : output_of (case_9 ++ 0x00 ∷ []) ≡ day_line_lem ++ day_line_lem ++ day_line_lem ++ day_line_lem ++ last_line
unfolding framing_within text_of line_of stored_line year month word field fields decimal
    judge_of length_right judge_kind judge_day judge_name judge_ordinal judge_register_day year_refusal ordinal_day_of ordinal_day_in month_of month_in date_of date_in
shown_run = refl

-- One day by number in each system, and in one that there is not.
abbrev pub day_in : ℕ → List ℕ
day_in system = 0x09 ∷ 0x00 ∷ 0x04 ∷ 0x00 ∷ system ∷ 0xBB ∷ 0x97 ∷ 0x1B ∷ 0x00 ∷ []

-- " 1 1808315 25", after "G 239 11" and "J 239 11", or after "W 238 10*"
abbrev on_the_day : List ℕ
on_the_day = 32 ∷ 49 ∷ 32 ∷ 49 ∷ 56 ∷ 48 ∷ 56 ∷ 51 ∷ 49 ∷ 53 ∷ 32 ∷ 50 ∷ 53 ∷ 10 ∷ []

-- "refused 4"
abbrev pub system_line : List ℕ
system_line = refused (52 ∷ 10 ∷ [])

pub run_of_each_system : output_of (day_in 1 ++ day_in 2 ++ day_in 3 ++ day_in 4)
    ≡ (71 ∷ 32 ∷ 50 ∷ 51 ∷ 57 ∷ 32 ∷ 49 ∷ 49 ∷ on_the_day) ++ (74 ∷ 32 ∷ 50 ∷ 51 ∷ 57 ∷ 32 ∷ 49 ∷ 49 ∷ on_the_day) ++ (87 ∷ 32 ∷ 50 ∷ 51 ∷ 56 ∷ 32 ∷ 49 ∷ 48 ∷ 42 ∷ on_the_day) ++ system_line
unfolding framing_within text_of line_of stored_line year month word field fields decimal
    judge_of length_right judge_kind judge_register_day date_of date_in
run_of_each_system = refl

-- Leap 5 in Guantian 1094, by date and by name, and in Guantian 1092; month 13 with leap 1; leap byte 2.
abbrev pub leap_months : List ℕ
leap_months =
    (0x0A ∷ 0x00 ∷ 0x01 ∷ 0x00 ∷ 0x01 ∷ 0x46 ∷ 0x04 ∷ 0x05 ∷ 0x01 ∷ 0x01 ∷ [])
    ++ (0x0A ∷ 0x00 ∷ 0x05 ∷ 0x00 ∷ 0x01 ∷ 0x46 ∷ 0x04 ∷ 0x05 ∷ 0x01 ∷ 0x26 ∷ [])
    ++ (0x0A ∷ 0x00 ∷ 0x01 ∷ 0x00 ∷ 0x01 ∷ 0x44 ∷ 0x04 ∷ 0x05 ∷ 0x01 ∷ 0x01 ∷ [])
    ++ (0x0A ∷ 0x00 ∷ 0x01 ∷ 0x00 ∷ 0x01 ∷ 0x46 ∷ 0x04 ∷ 0x0D ∷ 0x01 ∷ 0x01 ∷ [])
    ++ (0x0A ∷ 0x00 ∷ 0x01 ∷ 0x00 ∷ 0x01 ∷ 0x46 ∷ 0x04 ∷ 0x05 ∷ 0x02 ∷ 0x01 ∷ [])

-- "refused 10 4" and "refused 10 0"; "refused 6"
abbrev pub telling_line : ℕ → List ℕ
telling_line digit = refused (49 ∷ 48 ∷ 32 ∷ digit ∷ 10 ∷ [])

abbrev pub month_line_lem : List ℕ
month_line_lem = refused (54 ∷ 10 ∷ [])

pub refused_run : output_of leap_months ≡ telling_line 52 ++ telling_line 52 ++ telling_line 48 ++ month_line_lem ++ month_line_lem
unfolding framing_within text_of line_of stored_line word field fields decimal
    judge_of length_right judge_kind judge_day judge_name year_refusal month_of month_in last_leap
refused_run = refl
