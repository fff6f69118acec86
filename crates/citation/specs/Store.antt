-- What the storing step answers and writes, for every input and output.
use Rattle.std.specs.Prelude.{ℕ, ◌+◌, ◌*◌, ◌-◌, ◌^◌, ◌%◌, Bool, cond, ◌&&◌, ◌||◌, List, ◌++◌, ltb, leb, eqb, length, replicate, drop}
use Rattle.calendar.specs.SixtyDayName.{name_of}
use Rattle.reckoning.specs.ComputedRefusals.{outside}
use Rattle.reckoning.specs.RefusalNumbers.{SHORT, KIND, RETIRED, LENGTH, DAY, OUTPUT}
use Rattle.reckoning.specs.Requests.{as_register_day, ordinal_day_of, month_of, date_of}
use Rattle.reckoning.specs.Answers.{MonthAnswer, OrdinalAnswer, DateAnswer}
use Rattle.citation.specs.Answers.{JudgementAnswer}
use Rattle.citation.specs.Record.{length_field, kind_of, system_of, kind_length, year_field, month_field, leap_field}
use Rattle.citation.specs.Record.{day_field, name_field, ordinal_field, register_day_field, record_of}

-- A citation's judgement: its refusal number and what that tells, or 0 with the day that it names and its stored
-- record.
abbrev pub refuse_telling : ℕ → ℕ → JudgementAnswer
refuse_telling refusal told = record { refusal = refusal; day = as_register_day 0; stored = replicate 10 0; told = told }

abbrev pub refuse : ℕ → JudgementAnswer
refuse refusal = refuse_telling refusal 0

abbrev pub accept : ℕ → ℕ → ℕ → ℕ → ℕ → ℕ → JudgementAnswer
accept r system year month leap day =
    record { refusal = 0; day = as_register_day r; stored = record_of system year month leap day; told = 0 }

-- Refused as the reckoning refuses, with what that tells, and judged otherwise.
abbrev pub unless_refused : ℕ → ℕ → JudgementAnswer → JudgementAnswer
unless_refused refusal told j = cond (eqb refusal 0) j (refuse_telling refusal told)

-- Refused DAY where the place is wrong, and judged otherwise.
abbrev pub unless_wrong : Bool → JudgementAnswer → JudgementAnswer
unless_wrong wrong j = cond wrong (refuse DAY) j

-- Kind 4: the register day, stored by its date.
abbrev pub judge_date : DateAnswer → ℕ → ℕ → JudgementAnswer
judge_date d system r = unless_refused d.refusal 0 (accept r system d.year d.month d.leap d.day)

unfoldable pub judge_register_day : ℕ → ℕ → JudgementAnswer
judge_register_day system r = judge_date (date_of system r) system r

-- Kind 3: the day of the year with the ordinal.
abbrev pub judge_ordinal_day : OrdinalAnswer → ℕ → ℕ → JudgementAnswer
judge_ordinal_day d system year =
    unless_refused d.refusal 0 (accept d.day.0 system year d.month d.leap d.place)

unfoldable pub judge_ordinal : ℕ → ℕ → ℕ → JudgementAnswer
judge_ordinal system year ordinal = judge_ordinal_day (ordinal_day_of system year ordinal) system year

-- Kind 1: the day of the month.
abbrev pub judge_in_month : MonthAnswer → ℕ → ℕ → ℕ → ℕ → ℕ → JudgementAnswer
judge_in_month m system year month leap day =
    unless_refused m.refusal m.told
    (unless_wrong (outside 1 m.length day) (accept (m.head.0 + day - 1) system year month leap day))

unfoldable pub judge_day : ℕ → ℕ → ℕ → ℕ → ℕ → JudgementAnswer
judge_day system year month leap day = judge_in_month (month_of system year month leap) system year month leap day

-- Days from a month's head to the next day with a name.
abbrev pub days_to_name : ℕ → ℕ → ℕ
days_to_name head name = (name + 60 - name_of head) % 60

-- There is no such name, or the next day that bears it is past the month.
abbrev pub name_wrong : MonthAnswer → ℕ → Bool
name_wrong m name = outside 1 60 name || leb m.length (days_to_name m.head.0 name)

-- Kind 5: the day of the month with the name.
abbrev pub judge_name_in_month : MonthAnswer → ℕ → ℕ → ℕ → ℕ → ℕ → JudgementAnswer
judge_name_in_month m system year month leap name =
    unless_refused m.refusal m.told
    (unless_wrong (name_wrong m name)
    (accept (m.head.0 + days_to_name m.head.0 name) system year month leap (days_to_name m.head.0 name + 1)))

unfoldable pub judge_name : ℕ → ℕ → ℕ → ℕ → ℕ → JudgementAnswer
judge_name system year month leap name = judge_name_in_month (month_of system year month leap) system year month leap name

-- The length field is the kind's length, and the input's own length is the field's.
unfoldable pub length_right : List ℕ → Bool
length_right s = eqb (length_field s) (kind_length (kind_of s)) && eqb (length s) (length_field s)

unfoldable pub judge_kind : List ℕ → JudgementAnswer
judge_kind s =
    cond (eqb (kind_of s) 1)
    (judge_day (system_of s) (year_field s) (month_field s) (leap_field s) (day_field s))
    (cond (eqb (kind_of s) 5)
    (judge_name (system_of s) (year_field s) (month_field s) (leap_field s) (name_field s))
    (cond (eqb (kind_of s) 3)
    (judge_ordinal (system_of s) (year_field s) (ordinal_field s))
    (judge_register_day (system_of s) (register_day_field s))))

unfoldable pub judge_of : List ℕ → JudgementAnswer
judge_of s =
    cond (ltb (length s) 4)
    (refuse SHORT)
    (cond (outside 1 5 (kind_of s))
    (refuse KIND)
    (cond (eqb (kind_of s) 2)
    (refuse RETIRED)
    (cond (length_right s)
    (judge_kind s)
    (refuse LENGTH))))

-- The refusal of a storing: the citation's own, and then OUTPUT where the output has fewer than 10 bytes.
unfoldable pub refusal_of : List ℕ → ℕ → ℕ
refusal_of s room = cond (eqb (judge_of s).refusal 0) (cond (ltb room 10) OUTPUT 0) (judge_of s).refusal

-- What the refusal tells: with LEAP, the number of the year's leap month.
abbrev pub told_of : List ℕ → ℕ
told_of s = (judge_of s).told

-- The answer: the register day, 0 where refused, plus 2^32 times the refusal number and 2^40 times the month told.
unfoldable pub answer_of : List ℕ → ℕ → ℕ
answer_of s room =
    cond (eqb (refusal_of s room) 0) (judge_of s).day.0 0 + 2 ^ 32 * refusal_of s room + 2 ^ 40 * told_of s

-- The output afterwards: the stored record in the first ten bytes and the rest left; where refused, as it was.
unfoldable pub stored_into : List ℕ → List ℕ → List ℕ
stored_into s before =
    cond (eqb (refusal_of s (length before)) 0) ((judge_of s).stored ++ drop 10 before) before
