-- How what the code returns tells the papers' answers: a value beside refusal number 0, and an error as the blank with its
-- number.
use Rattle.std.specs.Prelude.{ℕ, Result, Ok, Err}
use Rattle.calendar.specs.declared.data.RegisterDay.{RegisterDay}
use Rattle.calendar.specs.Systems.{years_elapsed}
use Rattle.reckoning.specs.declared.calendars.Accepted.{Accepted}
use Rattle.reckoning.specs.declared.data.Moment.{Moment}
use Rattle.reckoning.specs.declared.data.PentadInForce.{PentadInForce}
use Rattle.reckoning.specs.declared.data.Year.{Year}
use Rattle.reckoning.specs.declared.data.Sheet.{Sheet}
use Rattle.reckoning.specs.declared.data.Month.{Month}
use Rattle.reckoning.specs.declared.data.Days.{Days}
use Rattle.reckoning.specs.declared.data.OrdinalDay.{OrdinalDay}
use Rattle.reckoning.specs.declared.data.Date.{Date}
use Rattle.reckoning.specs.declared.refusal.Refusal.{Refusal}
use Rattle.reckoning.specs.RefusalNumbers.{number_of, month_told}
use Rattle.reckoning.specs.Asked.{Asked, asked_of}
use Rattle.reckoning.specs.Answers.{MomentAnswer, PentadAnswer, YearAnswer, SheetAnswer, MonthAnswer, YearHeadAnswer, DaysAnswer, OrdinalAnswer, DateAnswer}
use Rattle.reckoning.specs.Requests.{no_moment, no_year, no_sheet, no_days, no_year_head, no_ordinal_day, no_month_telling, no_date, none_in_force}

abbrev pub told : {A B : Type 0} → (A → B) → (Refusal → B) → Result A Refusal → B
told answered refused (Ok a) = answered a
told answered refused (Err r) = refused r

-- Refused or not: the number, or 0.
abbrev pub told_refusal : {A : Type 0} → Result A Refusal → ℕ
told_refusal r = told (λ a. 0) number_of r

-- What a request by system and year stands on.
abbrev pub accepted_as : Accepted → Asked
accepted_as a = record { refusal = 0; c = a.calendar.c; n = years_elapsed a.calendar.c a.year }

abbrev pub told_asked : ℕ → ℕ → Result Accepted Refusal → Asked
told_asked system year r = told accepted_as (λ e. asked_of (number_of e) system year) r

-- A qi or a pentad.
abbrev pub moment_answered : Moment → MomentAnswer
moment_answered m = record { refusal = 0; day = m.day; parts = m.parts; units = m.units }

abbrev pub told_moment : Result Moment Refusal → MomentAnswer
told_moment r = told moment_answered (λ e. no_moment (number_of e)) r

-- The months of a year.
abbrev pub year_answered : Year → YearAnswer
year_answered y =
    record {
      refusal = 0;
      count = y.count;
      heads = y.heads;
      numbers = y.numbers;
      leaps = y.leaps;
      remainders = y.remainders;
      held = y.held;
    }

abbrev pub told_year : Result Year Refusal → YearAnswer
told_year r = told year_answered (λ e. no_year (number_of e)) r

-- A day sheet.
abbrev pub sheet_answered : Sheet → SheetAnswer
sheet_answered s = record { refusal = 0; names = s.names }

abbrev pub told_sheet : Result Sheet Refusal → SheetAnswer
told_sheet r = told sheet_answered (λ e. no_sheet (number_of e)) r

-- The days of a year.
abbrev pub days_answered : Days → DaysAnswer
days_answered d = record { refusal = 0; head = d.head; length = d.length }

abbrev pub told_days : Result Days Refusal → DaysAnswer
told_days r = told days_answered (λ e. no_days (number_of e)) r

-- The head of a year.
abbrev pub year_head_answered : RegisterDay → YearHeadAnswer
year_head_answered day = record { refusal = 0; day = day }

abbrev pub told_year_head : Result RegisterDay Refusal → YearHeadAnswer
told_year_head r = told year_head_answered (λ e. no_year_head (number_of e)) r

-- A day of a year by its ordinal.
abbrev pub ordinal_day_answered : OrdinalDay → OrdinalAnswer
ordinal_day_answered d = record { refusal = 0; day = d.day; month = d.month; leap = d.leap; place = d.place }

abbrev pub told_ordinal_day : Result OrdinalDay Refusal → OrdinalAnswer
told_ordinal_day r = told ordinal_day_answered (λ e. no_ordinal_day (number_of e)) r

-- A month; refused LEAP, also the number of the year's leap month.
abbrev pub month_answered : Month → MonthAnswer
month_answered m = record { refusal = 0; head = m.head; length = m.length; told = 0 }

abbrev pub told_month : Result Month Refusal → MonthAnswer
told_month r = told month_answered (λ e. no_month_telling (number_of e) (month_told e)) r

-- A date.
abbrev pub date_answered : Date → DateAnswer
date_answered d = record { refusal = 0; year = d.year; month = d.month; leap = d.leap; day = d.day }

abbrev pub told_date : Result Date Refusal → DateAnswer
told_date r = told date_answered (λ e. no_date (number_of e)) r

-- The pentad in force.
abbrev pub pentad_answered : PentadInForce → PentadAnswer
pentad_answered p = record { refusal = 0; year = p.year; pentad = p.pentad }

abbrev pub told_pentad : Result PentadInForce Refusal → PentadAnswer
told_pentad r = told pentad_answered (λ e. none_in_force (number_of e)) r
