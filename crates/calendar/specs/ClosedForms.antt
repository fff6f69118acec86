-- The functions by which the code reckons, beside `month_head`. `/` is whole division throughout.
use Rattle.std.specs.Prelude.{ℕ, ◌+◌, ◌*◌, ◌-◌, ◌/◌, ◌%◌, Bool, cond, ltb, eqb}
use Rattle.calendar.specs.declared.data.Constants.{Constants}
use Rattle.calendar.specs.declared.data.RegisterDay.{RegisterDay}
use Rattle.calendar.specs.Systems.{register_day}
use Rattle.calendar.specs.Month.{month_head, number_of, none_held}

-- The month that has day d: the last whose head is d or earlier. With lunar parts, k M / D ≤ d just when
-- k M ≤ (d + 1) D - 1.
abbrev pub month_of_day : Constants → ℕ → ℕ
month_of_day c d = ((d + 1) * c.lunar - 1) / c.month

-- Equal steps, s to a year, are counted on from the epoch: h is s n + i for step i of year n, so that nothing needs a
-- case for the turn of the year. Step h falls h Y / s parts from the epoch, and so on this day.
abbrev pub day_of_step : Constants → ℕ → ℕ → ℕ
day_of_step c s h = h * c.year / (s * c.solar)

-- The last step on a day before d. With solar parts, h Y / (s D) < d just when h Y ≤ d (s D) - 1.
abbrev pub step_before : Constants → ℕ → ℕ → ℕ
step_before c s d = (d * (s * c.solar) - 1) / c.year

-- The pentad in force at the end of day d, counted on from the epoch, 72 n + p: the last on a day before d + 1.
abbrev pub pentad_on : Constants → ℕ → ℕ
pentad_on c d = step_before c 72 (d + 1)

-- Middle qi are twelve to a year: g is 12 n + j for middle qi j of year n. The day of middle qi g.
abbrev pub day_of_qi : Constants → ℕ → ℕ
day_of_qi c g = day_of_step c 12 g

-- The month that holds middle qi g: the one that has its day.
abbrev pub month_of_qi : Constants → ℕ → ℕ
month_of_qi c g = month_of_day c (day_of_qi c g)

-- The last middle qi on a day before d.
abbrev pub qi_before : Constants → ℕ → ℕ
qi_before c d = step_before c 12 d

-- The last middle qi on a day of month k or earlier.
abbrev pub qi_of_month : Constants → ℕ → ℕ
qi_of_month c k = qi_before c (month_head c (k + 1))

-- The month that year n begins with: it has the day of the solstice, the year's first middle qi.
abbrev pub first_month : Constants → ℕ → ℕ
first_month c n = month_of_qi c (12 * n)

-- The first day of year n.
abbrev pub head_of_year : Constants → ℕ → ℕ
head_of_year c n = month_head c (first_month c n)

-- Its register day.
abbrev pub register_head : Constants → ℕ → RegisterDay
register_head c n = record { 0 = register_day c (head_of_year c n) }

-- The year that month k is in.
abbrev pub year_of_month : Constants → ℕ → ℕ
year_of_month c k = qi_of_month c k / 12

-- The number of month k: that of its middle qi, or, where it holds none, of the last before it.
abbrev pub month_number : Constants → ℕ → ℕ
month_number c k = number_of (qi_of_month c k % 12)

-- The leap mark of month k: how far it lies behind the month that holds that middle qi, 0 or 1.
abbrev pub leap_mark : Constants → ℕ → ℕ
leap_mark c k = k - month_of_qi c (qi_of_month c k)

-- What is told of the middle qi that a month holds, by the month's leap mark and its last middle qi: the qi's index in
-- its year; of a leap month, that it holds none.
abbrev pub held_by : ℕ → ℕ → ℕ
held_by mark g = cond (eqb mark 0) (g % 12) none_held

-- The same of month k.
abbrev pub held_index : Constants → ℕ → ℕ
held_index c k = held_by (leap_mark c k) (qi_of_month c k)

-- The middle qi of year n that gives a month a number: `number_of` inverted, and counted from the epoch.
abbrev pub qi_of_number : ℕ → ℕ → ℕ
qi_of_number n number = 12 * n + (number + 1) % 12

-- The month of year n with a number and a leap mark: the leap month comes right after the ordinary one.
abbrev pub month_cited : Constants → ℕ → ℕ → ℕ → ℕ
month_cited c n number mark = month_of_qi c (qi_of_number n number) + mark

-- The month right after the ordinary one is leap: it ends before the day of the next middle qi.
abbrev pub leap_follows : Constants → ℕ → ℕ → Bool
leap_follows c n number = ltb (month_of_qi c (qi_of_number n number) + 1) (month_of_qi c (qi_of_number n number + 1))
