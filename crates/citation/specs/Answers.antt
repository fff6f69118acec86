-- What the papers call a judgement: the number of a refusal and what that tells, with blank day and record; or 0 with the
-- day that the citation names and its stored record (see `Store`).
use Rattle.std.specs.Prelude.{ℕ, List}
use Rattle.calendar.specs.declared.data.RegisterDay.{RegisterDay}

pub record JudgementAnswer : Type 0 where
  pub refusal : ℕ
  pub day : RegisterDay
  pub stored : List ℕ
  pub told : ℕ
