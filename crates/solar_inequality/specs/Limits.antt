-- The numbers of the sun's excess and shortfall (盈缩): paper 02, Q-12, with 002. The words are the customer's own; books
-- on astronomy have the sun's inequality. Times are in parts of a day, of which Guantian has 12,030, and so what is a
-- fraction over 12,030 there is a whole number here.
use Rattle.std.specs.Prelude.{ℕ, ◌+◌, ◌*◌}
use Rattle.calendar.specs.Systems.{guantian}
use Rattle.solar_inequality.specs.declared.data.Season.{Season}
use Rattle.solar_inequality.specs.declared.data.Season.TheVariants.{Winter, Summer}
use Rattle.solar_inequality.specs.declared.limits.Limit.{Limit}

-- Parts in a day: 12,030.
abbrev pub in_day : ℕ
in_day = guantian.solar

-- After winter L is 88 and 10,958/12,030, and its divisor 3,294;
abbrev pub winter_limit : Limit
winter_limit = record { parts = 88 * in_day + 10_958; divisor = 3294 }

-- after summer 93 and 8,552/12,030, and 3,659.
abbrev pub summer_limit : Limit
summer_limit = record { parts = 93 * in_day + 8552; divisor = 3659 }

abbrev pub limit_of : Season → Limit
limit_of Winter = winter_limit
limit_of Summer = summer_limit

-- 182 and 7,480/12,030.
abbrev pub half_year : ℕ
half_year = 182 * in_day + 7480

abbrev pub other : Season → Season
other Winter = Summer
other Summer = Winter
