-- What each request answers, for every input: paper 01, "Reckoning" and "Numbered refusals", and paper 02, Q-3, Q-4, Q-8
-- and Q-9.
use Rattle.std.specs.Prelude.{ℕ, ◌+◌, ◌-◌, ◌/◌, ◌%◌, cond, List, eqb, replicate}
use Rattle.calendar.specs.declared.data.Constants.{Constants}
use Rattle.calendar.specs.declared.data.RegisterDay.{RegisterDay}
use Rattle.calendar.specs.Systems.{constants_of, years_elapsed, register_day, count_day}
use Rattle.calendar.specs.SixtyDayName.{name_of}
use Rattle.calendar.specs.Steps.{moment, day_of, parts_of, units_of}
use Rattle.calendar.specs.Month.{new_moon_remainder, month_head, none_held}
use Rattle.calendar.specs.ClosedForms.{pentad_on, month_of_day, first_month, head_of_year, register_head, year_of_month, month_number, leap_mark, held_index, month_cited}
use Rattle.calendar.specs.LeapMonth.{leap_number}
use Rattle.reckoning.specs.ComputedRefusals.{outside, no_such_system, out_of_years, year_refusal, step_refusal}
use Rattle.reckoning.specs.ComputedRefusals.{month_wrong, leap_wrong, day_wrong, solar_day_wrong}
use Rattle.reckoning.specs.RefusalNumbers.{SYSTEM, YEAR, MONTH, DAY, LEAP}
use Rattle.reckoning.specs.Asked.{Asked, asked_of}
use Rattle.reckoning.specs.Answers.{MomentAnswer, PentadAnswer, YearAnswer, SheetAnswer, MonthAnswer, YearHeadAnswer, DaysAnswer, OrdinalAnswer, DateAnswer}
use Rattle.reckoning.specs.Divisions.{Division, qis, pentads}
use Rattle.reckoning.specs.CommonYears.{common_year}
use Rattle.reckoning.specs.Filled.{filled}

abbrev pub as_register_day : ℕ → RegisterDay
as_register_day r = record { 0 = r }

-- What is asked is answered by the system's constants for the years elapsed unless there is a refusal, and then by the
-- blank answer with its number.
abbrev pub answer_to : {A : Type 0} → Asked → (Constants → ℕ → A) → (ℕ → A) → A
answer_to asked answer blank = cond (eqb asked.refusal 0) (answer asked.c asked.n) (blank asked.refusal)

-- So is a request by system and year.
abbrev pub answer_unless : {A : Type 0} → ℕ → ℕ → ℕ → (Constants → ℕ → A) → (ℕ → A) → A
answer_unless refusal system year answer blank = answer_to (asked_of refusal system year) answer blank

-- A request by system: refused SYSTEM where there is no such system, or answered by its constants.
abbrev pub answer_of_system : {A : Type 0} → ℕ → (Constants → A) → (ℕ → A) → A
answer_of_system system answer blank = cond (no_such_system system) (blank SYSTEM) (answer (constants_of system))

-- A request by year, of a system's constants: refused YEAR where the year is out of scope, or answered.
abbrev pub answer_of_year : {A : Type 0} → Constants → ℕ → (Constants → ℕ → A) → (ℕ → A) → A
answer_of_year c year answer blank = cond (out_of_years year) (blank YEAR) (answer c (years_elapsed c year))

-- A moment m, counted in units of which a part has u, told as register day, parts and units. Refused: zeros.
abbrev pub moment_in : Constants → ℕ → ℕ → MomentAnswer
moment_in c u m =
    record { refusal = 0; day = as_register_day (register_day c (day_of c u m)); parts = parts_of c u m; units = units_of u m }

abbrev pub no_moment : ℕ → MomentAnswer
no_moment refusal = record { refusal = refusal; day = as_register_day 0; parts = 0; units = 0 }

-- Step i of year n, of s equal ones.
abbrev pub step_in : ℕ → ℕ → ℕ → Constants → ℕ → MomentAnswer
step_in s u i c n = moment_in c u (moment c s u n i)

-- Step i of a year, by a division.
unfoldable pub step_of : Division → ℕ → ℕ → ℕ → MomentAnswer
step_of division system year i =
    answer_unless (step_refusal division.last system year i) system year
    (λ c n. step_in division.steps (division.units c) i c n)
    no_moment

abbrev pub qi_of : ℕ → ℕ → ℕ → MomentAnswer
qi_of system year i = step_of qis system year i

abbrev pub pentad_of : ℕ → ℕ → ℕ → MomentAnswer
pentad_of system year p = step_of pentads system year p

-- The months of year n in order: their heads with the next year's head after them, their numbers and leap marks, the
-- remainders of their new moons, and the indexes of the middle qi that they hold (paper 02, Q-9); in unused places 0, and
-- that none is held. Refused: count, heads, numbers, marks and remainders all 0, and none held.
abbrev pub no_heads : List RegisterDay
no_heads = replicate 14 (as_register_day 0)

abbrev pub no_numbers : List ℕ
no_numbers = replicate 14 0

abbrev pub no_qi : List ℕ
no_qi = replicate 14 none_held

abbrev pub head_at : Constants → ℕ → ℕ → RegisterDay
head_at c first i = as_register_day (register_day c (month_head c (first + i)))

abbrev pub number_at : Constants → ℕ → ℕ → ℕ
number_at c first i = month_number c (first + i)

abbrev pub leap_at : Constants → ℕ → ℕ → ℕ
leap_at c first i = leap_mark c (first + i)

abbrev pub remainder_at : Constants → ℕ → ℕ → ℕ
remainder_at c first i = new_moon_remainder c (first + i)

abbrev pub held_at : Constants → ℕ → ℕ → ℕ
held_at c first i = held_index c (first + i)

unfoldable pub months_from : Constants → ℕ → ℕ → YearAnswer
months_from c first count =
    record {
      refusal = 0;
      count = count;
      heads = filled (head_at c first) no_heads (count + 1);
      numbers = filled (number_at c first) no_numbers count;
      leaps = filled (leap_at c first) no_numbers count;
      remainders = filled (remainder_at c first) no_numbers count;
      held = filled (held_at c first) no_qi count;
    }

abbrev pub year_in : Constants → ℕ → YearAnswer
year_in c n = months_from c (first_month c n) (first_month c (n + 1) - first_month c n)

abbrev pub no_year : ℕ → YearAnswer
no_year refusal =
    record {
      refusal = refusal;
      count = 0;
      heads = no_heads;
      numbers = no_numbers;
      leaps = no_numbers;
      remainders = no_numbers;
      held = no_qi;
    }

unfoldable pub year_of : ℕ → ℕ → YearAnswer
year_of system year = answer_unless (year_refusal system year) system year year_in no_year

-- The names of the days of year n, one to a day, and 255 past its end. Refused: 384 times 255.
abbrev pub no_names : List ℕ
no_names = replicate 384 255

abbrev pub name_at : ℕ → ℕ → ℕ
name_at head i = name_of (head + i)

unfoldable pub sheet_in : Constants → ℕ → SheetAnswer
sheet_in c n =
    let head = register_day c (head_of_year c n) in
    let next = register_day c (head_of_year c (n + 1)) in
    record { refusal = 0; names = filled (name_at head) no_names (next - head) }

abbrev pub no_sheet : ℕ → SheetAnswer
no_sheet refusal = record { refusal = refusal; names = no_names }

unfoldable pub sheet_of : ℕ → ℕ → SheetAnswer
sheet_of system year = answer_unless (year_refusal system year) system year sheet_in no_sheet

-- The days of year n. Refused: zeros.
abbrev pub days_in : Constants → ℕ → DaysAnswer
days_in c n =
    let head = register_day c (head_of_year c n) in
    record { refusal = 0; head = as_register_day head; length = register_day c (head_of_year c (n + 1)) - head }

abbrev pub no_days : ℕ → DaysAnswer
no_days refusal = record { refusal = refusal; head = as_register_day 0; length = 0 }

unfoldable pub days_of : ℕ → ℕ → DaysAnswer
days_of system year = answer_unless (year_refusal system year) system year days_in no_days

-- The head of year n. Refused: zeros.
abbrev pub year_head_in : Constants → ℕ → YearHeadAnswer
year_head_in c n = record { refusal = 0; day = register_head c n }

abbrev pub no_year_head : ℕ → YearHeadAnswer
no_year_head refusal = record { refusal = refusal; day = as_register_day 0 }

unfoldable pub year_head_of : ℕ → ℕ → YearHeadAnswer
year_head_of system year = answer_unless (year_refusal system year) system year year_head_in no_year_head

-- The day of year n with an ordinal, from 1: its register day, its month's number and leap mark, and its place in the
-- month; DAY where the year has no such day. Refused: zeros.
abbrev pub ordinal_day_at : Constants → ℕ → OrdinalAnswer
ordinal_day_at c d =
    let k = month_of_day c d in
    record {
      refusal = 0;
      day = as_register_day (register_day c d);
      month = month_number c k;
      leap = leap_mark c k;
      place = d - month_head c k + 1;
    }

abbrev pub no_ordinal_day : ℕ → OrdinalAnswer
no_ordinal_day refusal = record { refusal = refusal; day = as_register_day 0; month = 0; leap = 0; place = 0 }

unfoldable pub ordinal_day_in : ℕ → Constants → ℕ → OrdinalAnswer
ordinal_day_in ordinal c n =
    cond (outside 1 (head_of_year c (n + 1) - head_of_year c n) ordinal)
    (no_ordinal_day DAY)
    (ordinal_day_at c (head_of_year c n + ordinal - 1))

unfoldable pub ordinal_day_of : ℕ → ℕ → ℕ → OrdinalAnswer
ordinal_day_of system year ordinal = answer_unless (year_refusal system year) system year (ordinal_day_in ordinal) no_ordinal_day

-- The month of year n with a number and a leap mark; MONTH where the number is not 1 to 12 or the mark not 0 or 1, and
-- then LEAP where that month is not leap. Refused: zeros, and with LEAP the number of the year's leap month.
abbrev pub month_at : Constants → ℕ → MonthAnswer
month_at c k =
    record {
      refusal = 0;
      head = as_register_day (register_day c (month_head c k));
      length = month_head c (k + 1) - month_head c k;
      told = 0;
    }

abbrev pub no_month_telling : ℕ → ℕ → MonthAnswer
no_month_telling refusal told = record { refusal = refusal; head = as_register_day 0; length = 0; told = told }

abbrev pub no_month : ℕ → MonthAnswer
no_month refusal = no_month_telling refusal 0

unfoldable pub month_in : Constants → ℕ → ℕ → ℕ → ℕ → MonthAnswer
month_in c n number leap told =
    cond (month_wrong number leap)
    (no_month MONTH)
    (cond (leap_wrong c n number leap)
    (no_month_telling LEAP told)
    (month_at c (month_cited c n number leap)))

-- The same with nothing told.
abbrev pub month_silent : ℕ → ℕ → Constants → ℕ → MonthAnswer
month_silent number leap c n = month_in c n number leap 0

-- What LEAP tells is the number of the year's leap month.
abbrev pub month_telling : ℕ → ℕ → Constants → ℕ → MonthAnswer
month_telling number leap c n = month_in c n number leap (leap_number c n)

unfoldable pub month_of : ℕ → ℕ → ℕ → ℕ → MonthAnswer
month_of system year number leap = answer_unless (year_refusal system year) system year (month_telling number leap) no_month

-- The date of a register day: its year, its month's number and leap mark, its place in the month; DAY outside years 1
-- to 3000. Refused: zeros.
abbrev pub date_at : Constants → ℕ → DateAnswer
date_at c d =
    let k = month_of_day c d in
    record {
      refusal = 0;
      year = common_year c (year_of_month c k);
      month = month_number c k;
      leap = leap_mark c k;
      day = d - month_head c k + 1;
    }

abbrev pub no_date : ℕ → DateAnswer
no_date refusal = record { refusal = refusal; year = 0; month = 0; leap = 0; day = 0 }

unfoldable pub date_in : Constants → ℕ → DateAnswer
date_in c r = cond (day_wrong c r) (no_date DAY) (date_at c (count_day c r))

unfoldable pub date_of : ℕ → ℕ → DateAnswer
date_of system r = answer_of_system system (λ c. date_in c r) no_date

-- The pentad in force at the end of a register day, and its year, counted from solstice to solstice; DAY outside years
-- 1 to 3000 so counted. Refused: zeros.
abbrev pub in_force_at : Constants → ℕ → PentadAnswer
in_force_at c d = record { refusal = 0; year = common_year c (pentad_on c d / 72); pentad = pentad_on c d % 72 }

abbrev pub none_in_force : ℕ → PentadAnswer
none_in_force refusal = record { refusal = refusal; year = 0; pentad = 0 }

unfoldable pub in_force_in : Constants → ℕ → PentadAnswer
in_force_in c r = cond (solar_day_wrong c r) (none_in_force DAY) (in_force_at c (count_day c r))

unfoldable pub pentad_in_force : ℕ → ℕ → PentadAnswer
pentad_in_force system r = answer_of_system system (λ c. in_force_in c r) none_in_force
