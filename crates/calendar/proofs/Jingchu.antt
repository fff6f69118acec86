-- Jingchu's constants against document 001 and paper 02, Q-6, computed.
use Prim.Native.Nat.{◌+◌, ◌*◌}
use mathlib.Core.Path.{◌≡◌, refl}
use Rattle.calendar.specs.declared.data.Constants.{Constants}
use Rattle.calendar.specs.Systems.{jingchu, constants_of, years_elapsed, register_day}
use Rattle.calendar.specs.SixtyDayName.{name_of_count_day, name_of}
use Rattle.calendar.specs.Steps.{solstice_day, solstice_remainder}

-- 235 months are 19 years. A month is M by the lunar parts of a day, and a year Y by the solar: multiplied out.
pub nineteen_years : 235 * jingchu.month * jingchu.solar ≡ 19 * jingchu.year * jingchu.lunar
nineteen_years = refl

-- A month is 29 days and 2,419 parts.
pub month_is : jingchu.month ≡ 29 * jingchu.lunar + 2419
month_is = refl

-- System 3 is Jingchu. The solstice of 237: its register day, remainder, and name, by the rule for count days and by that
-- for register days.
abbrev c : Constants
c = constants_of 3

pub solstice_of_237 : (register_day c (solstice_day c (years_elapsed c 237)) ≡ 1_807_614)
    × (solstice_remainder c (years_elapsed c 237) ≡ 1161)
    × (name_of_count_day c (solstice_day c (years_elapsed c 237)) ≡ 44)
    × (name_of 1_807_614 ≡ 44)
solstice_of_237 = (refl, refl, refl, refl)
