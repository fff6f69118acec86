-- What the papers call the answer to a request: the number of its refusal, 0 where it was answered, and the values, which
-- are blank where it was refused (see `Requests`).
use Rattle.std.specs.Prelude.{ℕ, List}
use Rattle.calendar.specs.declared.data.RegisterDay.{RegisterDay}

-- The moment of a qi or of a pentad.
pub record MomentAnswer : Type 0 where
  pub refusal : ℕ
  pub day : RegisterDay
  pub parts : ℕ
  pub units : ℕ

-- The pentad in force at the end of a day.
pub record PentadAnswer : Type 0 where
  pub refusal : ℕ
  pub year : ℕ
  pub pentad : ℕ

-- The months of a year.
pub record YearAnswer : Type 0 where
  pub refusal : ℕ
  pub count : ℕ
  pub heads : List RegisterDay
  pub numbers : List ℕ
  pub leaps : List ℕ
  pub remainders : List ℕ
  pub held : List ℕ

-- The names of a year's days.
pub record SheetAnswer : Type 0 where
  pub refusal : ℕ
  pub names : List ℕ

-- A month; with LEAP, and only then, `told` is the number of the year's leap month, 0 if the year has none.
pub record MonthAnswer : Type 0 where
  pub refusal : ℕ
  pub head : RegisterDay
  pub length : ℕ
  pub told : ℕ

-- The head of a year.
pub record YearHeadAnswer : Type 0 where
  pub refusal : ℕ
  pub day : RegisterDay

-- The days of a year.
pub record DaysAnswer : Type 0 where
  pub refusal : ℕ
  pub head : RegisterDay
  pub length : ℕ

-- A day of a year by its ordinal.
pub record OrdinalAnswer : Type 0 where
  pub refusal : ℕ
  pub day : RegisterDay
  pub month : ℕ
  pub leap : ℕ
  pub place : ℕ

-- A day by year, month number, leap mark and day of the month.
pub record DateAnswer : Type 0 where
  pub refusal : ℕ
  pub year : ℕ
  pub month : ℕ
  pub leap : ℕ
  pub day : ℕ
