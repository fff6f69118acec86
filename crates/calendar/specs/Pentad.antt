-- The 72 pentads, steps of some five days: paper 02, Q-4.
use Rattle.std.specs.Prelude.{ℕ, ◌+◌, ◌≤◌, ◌<◌}
use Rattle.calendar.specs.declared.data.Constants.{Constants}
use Rattle.calendar.specs.Steps.{solstice_day, moment, day_of}

-- Pentad p of year n, p from 0 to 71: p of 72 equal steps after T, in 36ths or 60ths of a part, with nothing rounded.
abbrev pub pentad : Constants → ℕ → ℕ → ℕ
pentad c n p = moment c 72 c.denominator n p

-- The day that its moment falls on.
abbrev pub pentad_day : Constants → ℕ → ℕ → ℕ
pentad_day c n p = day_of c c.denominator (pentad c n p)

-- Pentad p of year n is in force, the customer's own term, at the end of day d: it is the last whose moment falls on that
-- day or earlier.
pub record InForce (c : Constants) (d n p : ℕ) : Type 0 where
  pub is_pentad : p < 72
  pub has_come : pentad_day c n p ≤ d
  pub is_last : (m q : ℕ) → q < 72 → pentad_day c m q ≤ d → pentad c m q ≤ pentad c n p

-- A year counted from solstice to solstice: its days run from the solstice's day up to the day before the next one's.
abbrev pub InSolarYear : Constants → ℕ → ℕ → Type 0
InSolarYear c n d = (solstice_day c n ≤ d) × (d < solstice_day c (n + 1))
