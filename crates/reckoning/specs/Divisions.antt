-- The divisions of a year into equal steps that can be asked for.
use Rattle.std.specs.Prelude.{ℕ}
use Rattle.calendar.specs.declared.data.Constants.{Constants}

-- How many steps; the number of the last that is asked for; and how many units a part has, of those in which they are
-- told.
pub record Division : Type 0 where
  pub steps : ℕ
  pub last : ℕ
  pub units : Constants → ℕ

-- Qi 0 to 24, in small units: 24 is qi 0 of the year after (paper 02, Q-8).
abbrev pub qis : Division
qis = record { steps = 24; last = 24; units = λ c. c.units }

-- Pentads 0 to 71, in 36ths or 60ths.
abbrev pub pentads : Division
pentads = record { steps = 72; last = 71; units = λ c. c.denominator }
