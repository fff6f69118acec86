-- The solstice, and the moments that divide a year into equal steps from it.
-- Here and below a year is told by n, the years elapsed since the epoch (N of the paper).
use Rattle.std.specs.Prelude.{ℕ, ◌+◌, ◌*◌, ◌/◌, ◌%◌, ◌≡◌}
use Rattle.calendar.specs.declared.data.Constants.{Constants}

-- Reckoning, solstice: T, so many years of Y parts after the epoch.
abbrev pub solstice : Constants → ℕ → ℕ
solstice c n = n * c.year

-- Its count day is T by D, whole.
abbrev pub solstice_day : Constants → ℕ → ℕ
solstice_day c n = solstice c n / c.solar

-- Its remainder is what is left.
abbrev pub solstice_remainder : Constants → ℕ → ℕ
solstice_remainder c n = solstice c n % c.solar

-- One of s equal steps of a year, in units of which a part has u.
abbrev pub step : Constants → ℕ → ℕ → ℕ
step c s u = c.year * u / s

-- s divides the units of a year: no step is rounded, and s of them make the year.
abbrev pub DividesYear : Constants → ℕ → ℕ → Type 0
DividesYear c s u = c.year * u % s ≡ 0

-- The moment of step i, i steps after the solstice, in units from the epoch.
abbrev pub moment : Constants → ℕ → ℕ → ℕ → ℕ → ℕ
moment c s u n i = solstice c n * u + i * step c s u

-- A moment in units of which a part has u is told as its count day, parts and units.
abbrev pub day_of : Constants → ℕ → ℕ → ℕ
day_of c u m = m / u / c.solar

abbrev pub parts_of : Constants → ℕ → ℕ → ℕ
parts_of c u m = m / u % c.solar

abbrev pub units_of : ℕ → ℕ → ℕ
units_of u m = m % u
