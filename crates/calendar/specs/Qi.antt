-- The qi. A qi, the customer's own term, is a solar term.
use Rattle.std.specs.Prelude.{ℕ}
use Rattle.calendar.specs.declared.data.Constants.{Constants}
use Rattle.calendar.specs.Steps.{moment}

-- Reckoning, qi i of year n, i from 0, the winter solstice, to 24, which is qi 0 of the year after (paper 02, Q-8): i
-- of 24 equal steps after T, in small units, with nothing rounded. Guantian's step is 15 days, 2,628 parts and 12 small
-- units; the printed 11 of 002 is corrected (see `guantian_step`).
abbrev pub qi : Constants → ℕ → ℕ → ℕ
qi c n i = moment c 24 c.units n i
