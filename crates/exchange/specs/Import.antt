-- What an import answers, for every input.
use Rattle.std.specs.Prelude.{ℕ, ◌+◌, ◌*◌, ◌^◌, cond, List, ltb, eqb, length, Option, Some, None, Result, Ok, Err}
use Rattle.reckoning.specs.declared.refusal.Refusal.{Refusal}
use Rattle.reckoning.specs.declared.refusal.Refusal.TheVariants as Refused
use Rattle.reckoning.specs.Requests.{as_register_day}
use Rattle.reckoning.specs.RefusalNumbers.{number_of}
use Rattle.day_fraction.specs.Settling.{settled_of}
use Rattle.exchange.specs.declared.data.Time.{Time}
use Rattle.exchange.specs.declared.data.Time.TheVariants.{Fraction, Parts}
use Rattle.exchange.specs.declared.data.Imported.{Imported}
use Rattle.exchange.specs.Systems.{parts_in_day}
use Rattle.exchange.specs.Row.{day_field, tag_field, fraction_field, parts_field, filler_field}

-- The count that a time settles to, in a day of so many parts: a count below them as it is.
abbrev pub settled_time : ℕ → Time → Option ℕ
settled_time in_day (Fraction fraction) = settled_of in_day fraction
settled_time in_day (Parts parts) = cond (ltb parts in_day) (Some parts) None

-- What is taken of a row: its day, its time as it came and the count that the time settles to;
abbrev pub row_taken : ℕ → Time → ℕ → Imported
row_taken day time count = record { day = as_register_day day; time = time; count = count }

-- refused Time where it settles to none.
abbrev pub answer_with : ℕ → Time → Option ℕ → Result Imported Refusal
answer_with day time None = Err Refused.Time
answer_with day time (Some count) = Ok (row_taken day time count)

abbrev pub answer_of : ℕ → ℕ → Time → Result Imported Refusal
answer_of in_day day time = answer_with day time (settled_time in_day time)

-- A row with tag 1,
abbrev pub fraction_answer : ℕ → List ℕ → Result Imported Refusal
fraction_answer in_day s = answer_of in_day (day_field s) (Fraction (fraction_field s))

-- and with tag 2: refused Time where the filler is not zero.
abbrev pub parts_answer : ℕ → List ℕ → Result Imported Refusal
parts_answer in_day s = cond (eqb (filler_field s) 0) (answer_of in_day (day_field s) (Parts (parts_field s))) (Err Refused.Time)

unfoldable pub import_of : ℕ → List ℕ → Result Imported Refusal
import_of system s =
    cond (eqb (length s) 13)
    (cond (eqb (parts_in_day system) 0)
    (Err Refused.System)
    (cond (eqb (tag_field s) 1)
    (fraction_answer (parts_in_day system) s)
    (cond (eqb (tag_field s) 2)
    (parts_answer (parts_in_day system) s)
    (Err Refused.Kind))))
    (Err Refused.Length)

-- What each case tells: the refusal's number, 0 where there is none;
abbrev pub refusal_told : Result Imported Refusal → ℕ
refusal_told (Err refusal) = number_of refusal
refusal_told (Ok row) = 0

-- the day, 0 where refused;
abbrev pub day_told : Result Imported Refusal → ℕ
day_told (Err refusal) = 0
day_told (Ok row) = row.day.0

-- the count, 0 where refused;
abbrev pub count_told : Result Imported Refusal → ℕ
count_told (Err refusal) = 0
count_told (Ok row) = row.count

-- and the tag, 0 where refused: there is no time.
abbrev pub tag_of : Time → ℕ
tag_of (Fraction fraction) = 1
tag_of (Parts parts) = 2

abbrev pub tag_told : Result Imported Refusal → ℕ
tag_told (Err refusal) = 0
tag_told (Ok row) = tag_of row.time

-- The answer to C: the day, plus 2^32 times the refusal, plus 2^40 times the count, plus 2^56 times the tag.
abbrev pub import_answer : Result Imported Refusal → ℕ
import_answer i = day_told i + 2 ^ 32 * refusal_told i + 2 ^ 40 * count_told i + 2 ^ 56 * tag_told i
