-- New moons as the code has them.
use Rattle.std.specs.Prelude.{ℕ, ◌+◌, ◌-◌, cond, ltb}
use Rattle.calendar.specs.declared.data.Constants.{Constants}
use Rattle.calendar.specs.Systems.{register_day}
use Rattle.calendar.specs.Month.{new_moon_remainder, month_head}
use Rattle.reckoning.specs.Requests.{as_register_day}
use Rattle.submerged_extinguished.specs.declared.data.DayDistance.{DayDistance}
use Rattle.submerged_extinguished.specs.declared.moons.Moon.{Moon}
use Rattle.submerged_extinguished.specs.declared.rules.Rule.{Rule}
use Rattle.submerged_extinguished.specs.Answers.{extinguished_by}

-- That of month k: its register day and its remainder.
abbrev pub moon_at : Constants → ℕ → Moon
moon_at c k = record { day = register_day c (month_head c k); remainder = new_moon_remainder c k }

-- The next one: 30 days later and the shortfall less, or 29 days later where the remainder is below the shortfall.
unfoldable pub moon_after : Constants → Rule → Moon → Moon
moon_after c rule m =
    cond (ltb m.remainder rule.shortfall)
    (record { day = m.day + 29; remainder = m.remainder + c.lunar - rule.shortfall })
    (record { day = m.day + 30; remainder = m.remainder - rule.shortfall })

-- Its extinguished day.
abbrev pub extinguished_on : Rule → Moon → DayDistance
extinguished_on rule m = record { day = as_register_day m.day; distance = extinguished_by rule m.remainder }

-- How many months a year of so many days has.
abbrev pub months_in : ℕ → ℕ
months_in length = cond (ltb length 383) 12 13
