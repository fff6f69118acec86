-- What the answers for a qi, a pentad and a day sheet hold, in the paper's words.
use Rattle.std.specs.Prelude.{ℕ, ◌+◌, ◌*◌, ◌≤◌, ◌<◌, ◌≡◌, length, get_or}
use Rattle.calendar.specs.declared.data.Constants.{Constants}
use Rattle.calendar.specs.Systems.{IsRegisterDay}
use Rattle.calendar.specs.SixtyDayName.{name_of_count_day}
use Rattle.calendar.specs.Steps.{solstice_day, solstice_remainder}
use Rattle.calendar.specs.Qi.{qi}
use Rattle.calendar.specs.Pentad.{pentad}
use Rattle.calendar.specs.Year.{Span, year_head, year_length}
use Rattle.reckoning.specs.Answers.{MomentAnswer, SheetAnswer}

-- The moment m, counted in units of which a part has u: its day, parts and units together, to the last unit.
pub record IsMoment (c : Constants) (u m : ℕ) (v : MomentAnswer) : Type 0 where
  pub accepted : v.refusal ≡ 0
  -- its count day
  pub day : ℕ
  pub is_day : IsRegisterDay c v.day.0 day
  pub moment : (day * c.solar + v.parts) * u + v.units ≡ m
  pub parts_below : v.parts < c.solar
  pub units_below : v.units < u

-- Qi i of year n, in small units.
abbrev pub IsQi : Constants → ℕ → ℕ → MomentAnswer → Type 0
IsQi c n i v = IsMoment c c.units (qi c n i) v

-- The solstice of year n: its day and its remainder, in whole parts.
pub record IsSolstice (c : Constants) (n : ℕ) (v : MomentAnswer) : Type 0 where
  pub accepted : v.refusal ≡ 0
  pub day : IsRegisterDay c v.day.0 (solstice_day c n)
  pub remainder : v.parts ≡ solstice_remainder c n
  pub no_units : v.units ≡ 0

-- Pentad p of year n, in the units of its fraction.
abbrev pub IsPentad : Constants → ℕ → ℕ → MomentAnswer → Type 0
IsPentad c n p v = IsMoment c c.denominator (pentad c n p) v

-- A pentad p and a qi q that are one moment: the same day and parts, and the same fraction of a part, that of p being
-- its units by the denominator and that of q its small units by those in a part.
pub record SameMoment (c : Constants) (p q : MomentAnswer) : Type 0 where
  pub day : p.day.0 ≡ q.day.0
  pub parts : p.parts ≡ q.parts
  pub units : c.units * p.units ≡ c.denominator * q.units

-- The names of the days of year n, by the name of count day 0, and 255 past the year's end.
pub record IsSheet (c : Constants) (n : ℕ) (v : SheetAnswer) : Type 0 where
  pub accepted : v.refusal ≡ 0
  pub span : Span c n
  pub size : length v.names ≡ 384
  pub name : (i : ℕ) → i < year_length span → get_or v.names i 0 ≡ name_of_count_day c (year_head span + i)
  pub past : (i : ℕ) → year_length span ≤ i → i < 384 → get_or v.names i 0 ≡ 255
