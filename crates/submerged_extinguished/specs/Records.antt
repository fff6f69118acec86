-- What the papers call an answer: the number of its refusal, 0 where it was answered, and the values, which are blank where
-- it was refused (see `Answers`).
use Rattle.std.specs.Prelude.{ℕ, List, Option}
use Rattle.calendar.specs.declared.data.RegisterDay.{RegisterDay}
use Rattle.submerged_extinguished.specs.declared.data.DayDistance.{DayDistance}

-- A submerged or an extinguished day.
pub record DayAnswer : Type 0 where
  pub refusal : ℕ
  pub day : RegisterDay
  pub distance : Option ℕ

-- The extinguished days of a year, one of each new moon.
pub record MoonsAnswer : Type 0 where
  pub refusal : ℕ
  pub count : ℕ
  pub moons : List DayDistance
