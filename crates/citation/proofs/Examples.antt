-- The proved examples of paper 01 as paper 02, Q-2, has them, and those of Q-3, Q-4 and Q-6 to Q-9: one statement over
-- a table, computed.
use Prim.Native.Nat.{ℕ, ◌+◌, ◌*◌, ◌-◌, ◌^◌, ◌/◌, ◌%◌}
use mathlib.Core.Path.{◌≡◌, refl}
use mathlib.Core.List.{List, [], ◌∷◌, ◌++◌, map}
use lib.ListN.{replicate}
use Rattle.calendar.specs.Systems.{constants_of, years_elapsed}
use Rattle.calendar.specs.SixtyDayName.{name_of}
use Rattle.calendar.specs.Steps.{solstice, day_of}
use Rattle.calendar.specs.Qi.{qi}
use Rattle.calendar.specs.Month.{new_moon, month_head}
use Rattle.calendar.specs.ClosedForms.{first_month}
use Rattle.calendar.specs.LeapMonth.{last_leap}
use Rattle.reckoning.specs.Answers.{MomentAnswer}
use Rattle.reckoning.specs.Filled.{filled}
use Rattle.reckoning.specs.ComputedRefusals.{year_refusal, step_refusal}
use Rattle.reckoning.specs.Requests.{step_of, qi_of, pentad_of, in_force_in, pentad_in_force, year_of, months_from}
use Rattle.reckoning.specs.Requests.{ordinal_day_of, ordinal_day_in, month_of, month_in, date_of, date_in}
use Rattle.citation.specs.Store.{judge_register_day, judge_ordinal, judge_day, judge_name, judge_kind, length_right, judge_of, refusal_of, told_of, answer_of, stored_into}
use Rattle.reckoning.specs.YearValue.{head_in, number_in, leap_in, remainder_in, held_in}

pub data Question : Type 0 where
  -- the day, name and remainder of a year's first new moon; before them, where solar and lunar parts are one, how many
  -- parts it stands before the solstice
  Moon : ℕ → ℕ → Question
  FirstMoon : ℕ → ℕ → Question
  -- a qi, and a pentad: its refusal, day, the day's name, parts and units
  Qi : ℕ → ℕ → ℕ → Question
  Pentad : ℕ → ℕ → ℕ → Question
  -- how many days and how many parts a qi falls before the new moon of a month by its place from 1, where solar and
  -- lunar parts are one
  BeforeMoon : ℕ → ℕ → ℕ → ℕ → Question
  -- the pentad in force on a register day: refusal, year, number
  InForceOn : ℕ → ℕ → Question
  -- a year's head, months and days
  Head : ℕ → ℕ → Question
  Months : ℕ → ℕ → Question
  Days : ℕ → ℕ → Question
  -- a month by its place from 1: its number and leap mark; its head and days
  Number : ℕ → ℕ → ℕ → Question
  Month : ℕ → ℕ → ℕ → Question
  -- what is told beside it: its new moon's remainder, and the index of the middle qi that it holds, 255 for none
  RemainderAndHeld : ℕ → ℕ → ℕ → Question
  -- a citation, with an output of ten bytes or of nine: its refusal and the month told; the answer to C; its stored
  -- record
  Refusal : List ℕ → Question
  RefusalOfNine : List ℕ → Question
  Answer : List ℕ → Question
  Stored : List ℕ → Question

first_moon : ℕ → ℕ → List ℕ
first_moon system year =
    let v = year_of system year in
    (head_in v 0) ∷ (name_of (head_in v 0)) ∷ (remainder_in v 0) ∷ []

told : MomentAnswer → List ℕ
told v = v.refusal ∷ v.day.0 ∷ (name_of v.day.0) ∷ v.parts ∷ v.units ∷ []

pub answer : Question → List ℕ
answer (Moon system year) = first_moon system year
answer (FirstMoon system year) =
    let c = constants_of system in
    let n = years_elapsed c year in
    (solstice c n - new_moon c (first_month c n)) ∷ first_moon system year
answer (Qi system year i) = told (qi_of system year i)
answer (Pentad system year p) = told (pentad_of system year p)
answer (BeforeMoon system year i place) =
    let c = constants_of system in
    let n = years_elapsed c year in
    let k = first_month c n + place - 1 in
    let moment = qi c n i in
    (month_head c k - day_of c c.units moment) ∷ (new_moon c k - moment / c.units) ∷ []
answer (InForceOn system r) = let v = pentad_in_force system r in v.refusal ∷ v.year ∷ v.pentad ∷ []
answer (Head system year) = (head_in (year_of system year) 0) ∷ []
answer (Months system year) = (year_of system year).count ∷ []
answer (Days system year) = let v = year_of system year in (head_in v v.count - head_in v 0) ∷ []
answer (Number system year place) =
    let v = year_of system year in (number_in v (place - 1)) ∷ (leap_in v (place - 1)) ∷ []
answer (Month system year place) =
    let v = year_of system year in (head_in v (place - 1)) ∷ (head_in v place - head_in v (place - 1)) ∷ []
answer (RemainderAndHeld system year place) =
    let v = year_of system year in (remainder_in v (place - 1)) ∷ (held_in v (place - 1)) ∷ []
answer (Refusal s) = refusal_of s 10 ∷ told_of s ∷ []
answer (RefusalOfNine s) = refusal_of s 9 ∷ told_of s ∷ []
answer (Answer s) = answer_of s 10 ∷ []
answer (Stored s) = stored_into s (replicate 10 0)

-- The two bytes of a number, and the rest.
then : ℕ → List ℕ → List ℕ
then n rest = (n % 256) ∷ (n / 256) ∷ rest

-- Citations by ordinal, by date, by name and by register day.
cited_by_ordinal : ℕ → ℕ → ℕ → List ℕ
cited_by_ordinal system year ordinal = 9 ∷ 0 ∷ 3 ∷ 0 ∷ system ∷ then year (then ordinal [])

cited_by_date : ℕ → ℕ → ℕ → ℕ → ℕ → List ℕ
cited_by_date system year month leap day = 10 ∷ 0 ∷ 1 ∷ 0 ∷ system ∷ then year (month ∷ leap ∷ day ∷ [])

cited_by_name : ℕ → ℕ → ℕ → ℕ → ℕ → List ℕ
cited_by_name system year month leap name = 10 ∷ 0 ∷ 5 ∷ 0 ∷ system ∷ then year (month ∷ leap ∷ name ∷ [])

cited_by_day : ℕ → ℕ → List ℕ
cited_by_day system r = 9 ∷ 0 ∷ 4 ∷ 0 ∷ system ∷ then (r % 65_536) (then (r / 65_536) [])

-- The first record of case 9, as which all four are stored.
pub first_of_case_9 : List ℕ
first_of_case_9 = 0x0A ∷ 0x00 ∷ 0x01 ∷ 0x00 ∷ 0x01 ∷ 0x46 ∷ 0x04 ∷ 0x05 ∷ 0x00 ∷ 0x01 ∷ []

infix 20 ◌gives◌
-- A question and the paper's answer.
pub data Row : Type 0 where
  ◌gives◌ : Question → List ℕ → Row

pub asked : Row → List ℕ
asked (question gives expected) = answer question

pub expected : Row → List ℕ
expected (question gives numbers) = numbers

pub table : List Row
table =
    -- cases 1 and 2
    (Qi 1 1092 0 gives (0 ∷ 2_119_895 ∷ 25 ∷ 2320 ∷ 0 ∷ []))
    ∷ (FirstMoon 1 1092 gives (28_067 ∷ 2_119_892 ∷ 22 ∷ 10_343 ∷ []))
    -- case 3
    ∷ (Months 1 1092 gives (12 ∷ []))
    ∷ (Days 1 1092 gives (355 ∷ []))
    ∷ (Refusal (cited_by_ordinal 1 1092 355) gives (0 ∷ 0 ∷ []))
    ∷ (Refusal (cited_by_ordinal 1 1092 356) gives (7 ∷ 0 ∷ []))
    -- case 4: month 11 is the first
    ∷ (Number 1 1092 1 gives (11 ∷ 0 ∷ []))
    ∷ (Month 1 1092 1 gives (2_119_892 ∷ 30 ∷ []))
    ∷ (Refusal (cited_by_name 1 1092 11 0 51) gives (0 ∷ 0 ∷ []))
    ∷ (Refusal (cited_by_name 1 1092 11 0 52) gives (7 ∷ 0 ∷ []))
    -- what is no record: too short, of kind 6, of kind 0, nine bytes long, or longer than its kind; and an output of
    -- nine bytes
    ∷ (Refusal (10 ∷ 0 ∷ 1 ∷ []) gives (1 ∷ 0 ∷ []))
    ∷ (Refusal (10 ∷ 0 ∷ 6 ∷ 0 ∷ []) gives (2 ∷ 0 ∷ []))
    ∷ (Refusal (10 ∷ 0 ∷ 0 ∷ 0 ∷ []) gives (2 ∷ 0 ∷ []))
    ∷ (Refusal (9 ∷ 0 ∷ 1 ∷ 0 ∷ []) gives (3 ∷ 0 ∷ []))
    ∷ (Refusal (cited_by_ordinal 1 1092 1 ++ 0 ∷ []) gives (3 ∷ 0 ∷ []))
    ∷ (RefusalOfNine (cited_by_ordinal 1 1092 1) gives (8 ∷ 0 ∷ []))
    -- case 5
    ∷ (Head 1 1094 gives (2_120_601 ∷ []))
    ∷ (Months 1 1094 gives (13 ∷ []))
    ∷ (Days 1 1094 gives (384 ∷ []))
    ∷ (Refusal (cited_by_ordinal 1 1094 385) gives (7 ∷ 0 ∷ []))
    -- case 6: ordinary month 5, and the month before it is leap 4
    ∷ (Number 1 1094 8 gives (5 ∷ 0 ∷ []))
    ∷ (Month 1 1094 8 gives (2_120_808 ∷ 29 ∷ []))
    ∷ (Number 1 1094 7 gives (4 ∷ 1 ∷ []))
    -- the summer solstice falls just before its new moon, on the same day
    ∷ (Qi 1 1094 12 gives (0 ∷ 2_120_808 ∷ 38 ∷ 3630 ∷ 0 ∷ []))
    ∷ (BeforeMoon 1 1094 12 8 gives (0 ∷ 76 ∷ []))
    -- paper 02, Q-3: a leap month 5 is refused, by date and by name, and the year's leap month told
    ∷ (Refusal (cited_by_date 1 1094 5 1 1) gives (10 ∷ 4 ∷ []))
    ∷ (Refusal (cited_by_name 1 1094 5 1 38) gives (10 ∷ 4 ∷ []))
    ∷ (Answer (cited_by_date 1 1094 5 1 1) gives ((4 * 2 ^ 40 + 10 * 2 ^ 32) ∷ []))
    -- or 0, in a year of twelve months
    ∷ (Refusal (cited_by_date 1 1092 5 1 1) gives (10 ∷ 0 ∷ []))
    ∷ (Refusal (cited_by_name 1 1092 5 1 51) gives (10 ∷ 0 ∷ []))
    -- month 13, and leap byte 2, are refused before
    ∷ (Refusal (cited_by_date 1 1094 13 1 1) gives (6 ∷ 0 ∷ []))
    ∷ (Refusal (cited_by_name 1 1094 13 1 38) gives (6 ∷ 0 ∷ []))
    ∷ (Refusal (cited_by_date 1 1094 5 2 1) gives (6 ∷ 0 ∷ []))
    ∷ (Refusal (cited_by_name 1 1094 5 2 38) gives (6 ∷ 0 ∷ []))
    -- and a day that there is not, after
    ∷ (Refusal (cited_by_date 1 1094 5 1 31) gives (10 ∷ 4 ∷ []))
    ∷ (Refusal (cited_by_date 1 1094 4 1 31) gives (7 ∷ 0 ∷ []))
    -- cases 7 and 8
    ∷ (Qi 2 1106 0 gives (0 ∷ 2_125_008 ∷ 38 ∷ 4536 ∷ 0 ∷ []))
    ∷ (FirstMoon 2 1106 gives (50_806 ∷ 2_125_001 ∷ 31 ∷ 4760 ∷ []))
    ∷ (Months 2 1106 gives (12 ∷ []))
    -- case 9: four records of one day
    ∷ (Stored first_of_case_9 gives first_of_case_9)
    ∷ (Stored (0x0A ∷ 0x00 ∷ 0x05 ∷ 0x00 ∷ 0x01 ∷ 0x46 ∷ 0x04 ∷ 0x05 ∷ 0x00 ∷ 0x26 ∷ []) gives first_of_case_9)
    ∷ (Stored (0x09 ∷ 0x00 ∷ 0x03 ∷ 0x00 ∷ 0x01 ∷ 0x46 ∷ 0x04 ∷ 0xD0 ∷ 0x00 ∷ []) gives first_of_case_9)
    ∷ (Stored (0x09 ∷ 0x00 ∷ 0x04 ∷ 0x00 ∷ 0x01 ∷ 0x68 ∷ 0x5C ∷ 0x20 ∷ 0x00 ∷ []) gives first_of_case_9)
    -- Q-7: kind 2 is retired, whole or not, whatever else is wrong; so is a record of nine bytes with it
    ∷ (Refusal (10 ∷ 0 ∷ 2 ∷ 0 ∷ 1 ∷ 0x46 ∷ 0x04 ∷ 5 ∷ 0 ∷ 37 ∷ []) gives (11 ∷ 0 ∷ []))
    ∷ (Refusal (10 ∷ 0 ∷ 2 ∷ 0 ∷ 4 ∷ 0 ∷ 0 ∷ 13 ∷ 2 ∷ 60 ∷ []) gives (11 ∷ 0 ∷ []))
    ∷ (Refusal (9 ∷ 0 ∷ 2 ∷ 0 ∷ []) gives (11 ∷ 0 ∷ []))
    -- the last name, guihai, and the first, jiazi, on two days of one month; there is no name 0, and none 61
    ∷ (Stored (cited_by_name 1 1094 4 0 60) gives cited_by_date 1 1094 4 0 22)
    ∷ (Stored (cited_by_name 1 1094 4 0 1) gives cited_by_date 1 1094 4 0 23)
    ∷ (Refusal (cited_by_name 1 1094 4 0 0) gives (7 ∷ 0 ∷ []))
    ∷ (Refusal (cited_by_name 1 1094 4 0 61) gives (7 ∷ 0 ∷ []))
    -- case 10: the solstice of 1108 falls on the day of the next new moon, so that the last month of 1107 is leap 10
    ∷ (BeforeMoon 2 1108 0 1 gives (0 ∷ 5892 ∷ []))
    ∷ (Months 2 1107 gives (13 ∷ []))
    ∷ (Number 2 1107 13 gives (10 ∷ 1 ∷ []))
    ∷ (Months 2 1108 gives (12 ∷ []))
    ∷ (Refusal (cited_by_date 2 1107 11 1 1) gives (10 ∷ 10 ∷ []))
    ∷ (Refusal (cited_by_date 2 1108 10 1 1) gives (10 ∷ 0 ∷ []))
    -- Q-4: from the solstices of cases 1 and 7 one step, in 36ths and in 60ths; then one that is a qi, at three
    -- quarters
    ∷ (Pentad 1 1092 0 gives (0 ∷ 2_119_895 ∷ 25 ∷ 2320 ∷ 0 ∷ []))
    ∷ (Pentad 1 1092 1 gives (0 ∷ 2_119_900 ∷ 30 ∷ 3196 ∷ 4 ∷ []))
    ∷ (Pentad 2 1106 0 gives (0 ∷ 2_125_008 ∷ 38 ∷ 4536 ∷ 0 ∷ []))
    ∷ (Pentad 2 1106 1 gives (0 ∷ 2_125_013 ∷ 43 ∷ 5066 ∷ 55 ∷ []))
    ∷ (Pentad 2 1106 3 gives (0 ∷ 2_125_023 ∷ 53 ∷ 6128 ∷ 45 ∷ []))
    -- refused, with zeros; 50 is the name of day 0
    ∷ (Pentad 4 0 72 gives (4 ∷ 0 ∷ 50 ∷ 0 ∷ 0 ∷ []))
    ∷ (Pentad 1 0 72 gives (5 ∷ 0 ∷ 50 ∷ 0 ∷ 0 ∷ []))
    ∷ (Pentad 1 3000 72 gives (9 ∷ 0 ∷ 50 ∷ 0 ∷ 0 ∷ []))
    -- the day of case 9, the turn of the year, the first and the last day
    ∷ (InForceOn 1 2_120_808 gives (0 ∷ 1094 ∷ 36 ∷ []))
    ∷ (InForceOn 1 2_119_894 gives (0 ∷ 1091 ∷ 71 ∷ []))
    ∷ (InForceOn 1 2_119_895 gives (0 ∷ 1092 ∷ 0 ∷ []))
    ∷ (InForceOn 1 1_721_413 gives (7 ∷ 0 ∷ 0 ∷ []))
    ∷ (InForceOn 1 1_721_414 gives (0 ∷ 1 ∷ 0 ∷ []))
    ∷ (InForceOn 2 2_817_144 gives (0 ∷ 3000 ∷ 71 ∷ []))
    ∷ (InForceOn 2 2_817_145 gives (7 ∷ 0 ∷ 0 ∷ []))
    ∷ (InForceOn 4 0 gives (4 ∷ 0 ∷ 0 ∷ []))
    -- Q-6: the solstice of 237, its year, and the next, whose last month is leap 10
    ∷ (Qi 3 237 0 gives (0 ∷ 1_807_614 ∷ 44 ∷ 1161 ∷ 0 ∷ []))
    ∷ (Moon 3 237 gives (1_807_606 ∷ 36 ∷ 3915 ∷ []))
    ∷ (Months 3 237 gives (12 ∷ []))
    ∷ (Days 3 237 gives (355 ∷ []))
    ∷ (Months 3 238 gives (13 ∷ []))
    ∷ (Number 3 238 13 gives (10 ∷ 1 ∷ []))
    ∷ (Month 3 238 13 gives (1_808_315 ∷ 30 ∷ []))
    -- solstice and new moon of 239 at one moment, 228 of 1,843 parts and 564 of 4,559
    ∷ (Qi 3 239 0 gives (0 ∷ 1_808_345 ∷ 55 ∷ 228 ∷ 0 ∷ []))
    ∷ (Moon 3 239 gives (1_808_345 ∷ 55 ∷ 564 ∷ []))
    -- year 8 has leap 1 by the days of the middle qi; by their moments it would be leap 2
    ∷ (Number 3 8 4 gives (1 ∷ 1 ∷ []))
    -- and 236 leap 2, where the rounding of 001 would have leap 1
    ∷ (Number 3 236 5 gives (2 ∷ 1 ∷ []))
    -- four records of one day
    ∷ (Stored (cited_by_date 3 238 10 1 1) gives cited_by_date 3 238 10 1 1)
    ∷ (Stored (cited_by_name 3 238 10 1 25) gives cited_by_date 3 238 10 1 1)
    ∷ (Stored (cited_by_ordinal 3 238 355) gives cited_by_date 3 238 10 1 1)
    ∷ (Stored (cited_by_day 3 1_808_315) gives cited_by_date 3 238 10 1 1)
    -- the first and the last day of the years 1 and 3000, and those beside them
    ∷ (Stored (cited_by_day 3 1_721_407) gives cited_by_date 3 1 11 0 1)
    ∷ (Stored (cited_by_day 3 1_721_760) gives cited_by_date 3 1 10 0 30)
    ∷ (Stored (cited_by_day 3 2_816_785) gives cited_by_date 3 3000 11 0 1)
    ∷ (Stored (cited_by_day 3 2_817_138) gives cited_by_date 3 3000 10 0 29)
    ∷ (Refusal (cited_by_day 3 1_721_406) gives (7 ∷ 0 ∷ []))
    ∷ (Refusal (cited_by_day 3 2_817_139) gives (7 ∷ 0 ∷ []))
    -- there is no system 4, and none 0, whatever else is wrong
    ∷ (Refusal (cited_by_day 4 1_808_315) gives (4 ∷ 0 ∷ []))
    ∷ (Refusal (cited_by_day 4 0) gives (4 ∷ 0 ∷ []))
    ∷ (Refusal (cited_by_date 4 0 13 2 31) gives (4 ∷ 0 ∷ []))
    ∷ (Refusal (cited_by_day 0 1_808_315) gives (4 ∷ 0 ∷ []))
    ∷ (Refusal (cited_by_ordinal 0 238 1) gives (4 ∷ 0 ∷ []))
    ∷ (Refusal (cited_by_name 0 238 10 1 25) gives (4 ∷ 0 ∷ []))
    ∷ (Pentad 0 237 1 gives (4 ∷ 0 ∷ 50 ∷ 0 ∷ 0 ∷ []))
    ∷ (InForceOn 0 1_808_315 gives (4 ∷ 0 ∷ 0 ∷ []))
    -- days before the epoch, and the epoch
    ∷ (Refusal (cited_by_day 3 0) gives (7 ∷ 0 ∷ []))
    ∷ (Refusal (cited_by_day 3 330_190) gives (7 ∷ 0 ∷ []))
    ∷ (Refusal (cited_by_day 3 330_191) gives (7 ∷ 0 ∷ []))
    -- from the solstice of 237 one pentad, and three, which are a qi; the first and the last day of the years 1 to 3000
    ∷ (Pentad 3 237 1 gives (0 ∷ 1_807_619 ∷ 49 ∷ 1295 ∷ 11 ∷ []))
    ∷ (Pentad 3 237 3 gives (0 ∷ 1_807_629 ∷ 59 ∷ 1563 ∷ 33 ∷ []))
    ∷ (Qi 3 237 1 gives (0 ∷ 1_807_629 ∷ 59 ∷ 1563 ∷ 11 ∷ []))
    ∷ (InForceOn 3 330_190 gives (7 ∷ 0 ∷ 0 ∷ []))
    ∷ (InForceOn 3 1_721_415 gives (7 ∷ 0 ∷ 0 ∷ []))
    ∷ (InForceOn 3 1_721_416 gives (0 ∷ 1 ∷ 0 ∷ []))
    ∷ (InForceOn 3 2_817_156 gives (0 ∷ 3000 ∷ 71 ∷ []))
    ∷ (InForceOn 3 2_817_157 gives (7 ∷ 0 ∷ 0 ∷ []))
    -- Q-8: the years of cases 1 and 7 and 237 of Jingchu end 365 days and 2,930, 1,776 and 455 parts after they began,
    -- where the next begin
    ∷ (Qi 1 1092 24 gives (0 ∷ 2_120_260 ∷ 30 ∷ 5250 ∷ 0 ∷ []))
    ∷ (Qi 1 1093 0 gives (0 ∷ 2_120_260 ∷ 30 ∷ 5250 ∷ 0 ∷ []))
    ∷ (Qi 2 1106 24 gives (0 ∷ 2_125_373 ∷ 43 ∷ 6312 ∷ 0 ∷ []))
    ∷ (Qi 2 1107 0 gives (0 ∷ 2_125_373 ∷ 43 ∷ 6312 ∷ 0 ∷ []))
    ∷ (Qi 3 237 24 gives (0 ∷ 1_807_979 ∷ 49 ∷ 1616 ∷ 0 ∷ []))
    ∷ (Qi 3 238 0 gives (0 ∷ 1_807_979 ∷ 49 ∷ 1616 ∷ 0 ∷ []))
    -- so do the last years, though the year after is refused
    ∷ (Qi 1 3000 24 gives (0 ∷ 2_817_145 ∷ 15 ∷ 1740 ∷ 0 ∷ []))
    ∷ (Qi 2 3000 24 gives (0 ∷ 2_817_145 ∷ 15 ∷ 2076 ∷ 0 ∷ []))
    ∷ (Qi 3 3000 24 gives (0 ∷ 2_817_157 ∷ 27 ∷ 12 ∷ 0 ∷ []))
    ∷ (Qi 1 3001 0 gives (5 ∷ 0 ∷ 50 ∷ 0 ∷ 0 ∷ []))
    -- refused, with zeros
    ∷ (Qi 4 0 25 gives (4 ∷ 0 ∷ 50 ∷ 0 ∷ 0 ∷ []))
    ∷ (Qi 1 0 25 gives (5 ∷ 0 ∷ 50 ∷ 0 ∷ 0 ∷ []))
    ∷ (Qi 1 3000 25 gives (9 ∷ 0 ∷ 50 ∷ 0 ∷ 0 ∷ []))
    -- Q-9: leap 4 of Guantian 1094 holds no middle qi; the month after it holds middle qi 6, which is qi 12, 76 parts
    -- before its new moon on one day; new moons are 29 days and 6,383 parts apart; the next year's head has nothing
    -- beside it
    ∷ (Qi 1 1094 12 gives (0 ∷ 2_120_808 ∷ 38 ∷ 3630 ∷ 0 ∷ []))
    ∷ (RemainderAndHeld 1 1094 6 gives (2970 ∷ 5 ∷ []))
    ∷ (RemainderAndHeld 1 1094 7 gives (9353 ∷ 255 ∷ []))
    ∷ (RemainderAndHeld 1 1094 8 gives (3706 ∷ 6 ∷ []))
    ∷ (RemainderAndHeld 1 1094 13 gives (11_561 ∷ 11 ∷ []))
    ∷ (RemainderAndHeld 1 1094 14 gives (0 ∷ 255 ∷ []))
    -- leap 10 of Jiyuan 1107 is its last month, twelve of 29 days and 3,868 parts after the first
    ∷ (RemainderAndHeld 2 1107 1 gives (146 ∷ 0 ∷ []))
    ∷ (RemainderAndHeld 2 1107 12 gives (6244 ∷ 11 ∷ []))
    ∷ (RemainderAndHeld 2 1107 13 gives (2822 ∷ 255 ∷ []))
    ∷ (RemainderAndHeld 2 1107 14 gives (0 ∷ 255 ∷ []))
    -- Jingchu's are the moon's parts, 4,559 to a day, and rise by 29 days and 2,419 parts; of twelve months the
    -- thirteenth place has the next year's head
    ∷ (RemainderAndHeld 3 237 1 gives (3915 ∷ 0 ∷ []))
    ∷ (RemainderAndHeld 3 237 2 gives (1775 ∷ 1 ∷ []))
    ∷ (RemainderAndHeld 3 237 12 gives (3170 ∷ 11 ∷ []))
    ∷ (RemainderAndHeld 3 237 13 gives (0 ∷ 255 ∷ []))
    -- refused
    ∷ (RemainderAndHeld 4 1094 1 gives (0 ∷ 255 ∷ []))
    ∷ (RemainderAndHeld 1 3001 1 gives (0 ∷ 255 ∷ []))
    ∷ []

pub examples : map asked table ≡ map expected table
unfolding first_moon told answer asked expected table first_of_case_9 then cited_by_ordinal cited_by_date cited_by_name cited_by_day step_of in_force_in pentad_in_force year_of year_refusal step_refusal months_from filled
    last_leap refusal_of answer_of stored_into judge_of length_right judge_kind judge_day judge_name judge_ordinal judge_register_day ordinal_day_of ordinal_day_in month_of month_in date_of date_in
examples = refl
