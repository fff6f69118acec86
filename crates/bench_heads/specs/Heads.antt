-- The register day of a year's head; 0 where it is not printed, or refused.
use Rattle.std.specs.Prelude.{ℕ, Option, Some, None}
use Rattle.calendar.specs.declared.data.RegisterDay.{RegisterDay}
use Rattle.printed_heads.specs.PrintedHeads.{printed_head}
use Rattle.reckoning.specs.Requests.{year_head_of}

abbrev pub day_or0 : Option RegisterDay → ℕ
day_or0 (Some r) = r.0
day_or0 None = 0

abbrev pub printed : ℕ → ℕ → ℕ
printed system year = day_or0 (printed_head system year)

abbrev pub reckoned : ℕ → ℕ → ℕ
reckoned system year = (year_head_of system year).day.0
