-- The numbers of the refusals: paper 01, "Numbered refusals", and paper 02, Q-3, Q-4, Q-7 and Q-10 to Q-12. Each
-- name says what is wrong, as in include/chiselbrow.h.
use Rattle.std.specs.Prelude.{ℕ, Option, Some, None}
use Rattle.reckoning.specs.declared.refusal.Refusal.{Refusal}
use Rattle.reckoning.specs.declared.refusal.Refusal.TheVariants.{Short, Kind, Length, System, Year, Month, Day, Output, Step, NotLeap, Retired, Time}

-- The input is too short to be a record.
abbrev pub SHORT : ℕ
SHORT = 1

-- There is no such kind, or no such tag.
abbrev pub KIND : ℕ
KIND = 2

-- A length is not that of the kind, or of a row.
abbrev pub LENGTH : ℕ
LENGTH = 3

-- There is no such system, or it has no rule for what is asked.
abbrev pub SYSTEM : ℕ
SYSTEM = 4

-- The case itself. By its own name it would not be told from the type `calendar/src/systems.rt: System` in a contract.
abbrev pub system_refused : Refusal
system_refused = System

-- The year is out of scope.
abbrev pub YEAR : ℕ
YEAR = 5

-- There is no such month.
abbrev pub MONTH : ℕ
MONTH = 6

-- The month, the year or the half year after a solstice has no such day, or the register day is out of scope; or the
-- year has no such place.
abbrev pub DAY : ℕ
DAY = 7

-- The output is too short for what is to be written.
abbrev pub OUTPUT : ℕ
OUTPUT = 8

-- There is no such qi, or no such pentad.
abbrev pub STEP : ℕ
STEP = 9

-- The year has no such leap month.
abbrev pub LEAP : ℕ
LEAP = 10

-- The kind is retired.
abbrev pub RETIRED : ℕ
RETIRED = 11

-- It is no time of the day.
abbrev pub TIME : ℕ
TIME = 12

-- The number of each refusal,
abbrev pub number_of : Refusal → ℕ
number_of Short = SHORT
number_of Kind = KIND
number_of Length = LENGTH
number_of System = SYSTEM
number_of Year = YEAR
number_of Month = MONTH
number_of Day = DAY
number_of Output = OUTPUT
number_of Step = STEP
number_of (NotLeap month) = LEAP
number_of Retired = RETIRED
number_of Time = TIME

-- the number of a year's leap month, 0 where the year has none,
abbrev pub number_or_0 : Option ℕ → ℕ
number_or_0 None = 0
number_or_0 (Some number) = number

-- and what a refusal tells beside its own: with LEAP that number, otherwise 0.
abbrev pub month_told : Refusal → ℕ
month_told Short = 0
month_told Kind = 0
month_told Length = 0
month_told System = 0
month_told Year = 0
month_told Month = 0
month_told Day = 0
month_told Output = 0
month_told Step = 0
month_told (NotLeap month) = number_or_0 month
month_told Retired = 0
month_told Time = 0
