-- What is answered of submerged and extinguished days, for every input: paper 02, Q-10.
use Rattle.std.specs.Prelude.{ℕ, ◌+◌, ◌*◌, ◌-◌, ◌/◌, cond, List, ltb, eqb, get_or, replicate, Option, Some, None}
use Rattle.calendar.specs.declared.data.Constants.{Constants}
use Rattle.calendar.specs.declared.data.RegisterDay.{RegisterDay}
use Rattle.calendar.specs.Systems.{constants_of, register_day}
use Rattle.calendar.specs.Month.{new_moon_remainder, month_head}
use Rattle.calendar.specs.ClosedForms.{first_month}
use Rattle.reckoning.specs.Answers.{MomentAnswer}
use Rattle.reckoning.specs.ComputedRefusals.{outside, year_refusal}
use Rattle.reckoning.specs.Filled.{filled}
use Rattle.reckoning.specs.RefusalNumbers.{SYSTEM, DAY}
use Rattle.reckoning.specs.Requests.{as_register_day, answer_unless, qi_of}
use Rattle.submerged_extinguished.specs.declared.data.DayDistance.{DayDistance}
use Rattle.submerged_extinguished.specs.declared.rules.Rule.{Rule}
use Rattle.submerged_extinguished.specs.Records.{DayAnswer, MoonsAnswer}
use Rattle.submerged_extinguished.specs.Rules.{last_rule, rule_of}

-- A remainder of parts and small units, in small units.
abbrev pub exact_remainder : Constants → ℕ → ℕ → ℕ
exact_remainder c parts units = parts * c.units + units

-- The distance after a qi with a remainder of r small units; one division.
unfoldable pub submerged_by : Constants → Rule → ℕ → Option ℕ
submerged_by c rule r =
    cond (ltb r rule.limit)
    None
    (Some ((rule.minuend * c.units - rule.multiplier * r) / (rule.divisor * c.units)))

-- The distance after a new moon with a remainder of r parts.
unfoldable pub extinguished_by : Rule → ℕ → Option ℕ
extinguished_by rule r = cond (ltb r rule.shortfall) (Some (30 * r / rule.shortfall)) None

-- By the rule that a system's number picks.
abbrev pub submerged_after : ℕ → ℕ → ℕ → Option ℕ
submerged_after system parts units =
    submerged_by (constants_of system) (rule_of system) (exact_remainder (constants_of system) parts units)

-- Refused: day 0 and no distance.
abbrev pub no_answer : ℕ → DayAnswer
no_answer refusal = record { refusal = refusal; day = as_register_day 0; distance = None }

abbrev pub answer_at : RegisterDay → Option ℕ → DayAnswer
answer_at day distance = record { refusal = 0; day = day; distance = distance }

-- The submerged day of a qi, by the moment that is answered for it. Refused SYSTEM where the system has no rule, then as
-- the qi was.
unfoldable pub submerged_in : ℕ → MomentAnswer → DayAnswer
submerged_in system qi =
    cond (outside 1 last_rule system)
    (no_answer SYSTEM)
    (cond (eqb qi.refusal 0)
    (answer_at qi.day (submerged_after system qi.parts qi.units))
    (no_answer qi.refusal))

-- Of qi i of a year.
abbrev pub submerged_of : ℕ → ℕ → ℕ → DayAnswer
submerged_of system year i = submerged_in system (qi_of system year i)

-- The extinguished day of the new moon of month k.
abbrev pub extinguished_at : Constants → Rule → ℕ → DayDistance
extinguished_at c rule k =
    record { day = as_register_day (register_day c (month_head c k)); distance = extinguished_by rule (new_moon_remainder c k) }

-- A place that is not used.
abbrev pub unused : DayDistance
unused = record { day = as_register_day 0; distance = None }

abbrev pub no_moons : List DayDistance
no_moons = replicate 13 unused

-- Those of `count` months from month `first` on, in order, and unused places after them.
unfoldable pub extinguished_from : Constants → Rule → ℕ → ℕ → MoonsAnswer
extinguished_from c rule first count =
    record { refusal = 0; count = count; moons = filled (λ i. extinguished_at c rule (first + i)) no_moons count }

-- Those of year n.
abbrev pub extinguished_days_in : Rule → Constants → ℕ → MoonsAnswer
extinguished_days_in rule c n = extinguished_from c rule (first_month c n) (first_month c (n + 1) - first_month c n)

-- Refused: none.
abbrev pub no_days : ℕ → MoonsAnswer
no_days refusal = record { refusal = refusal; count = 0; moons = no_moons }

unfoldable pub extinguished_days_of : ℕ → ℕ → MoonsAnswer
extinguished_days_of system year =
    cond (outside 1 last_rule system)
    (no_days SYSTEM)
    (answer_unless (year_refusal system year) system year (extinguished_days_in (rule_of system)) no_days)

abbrev pub answer_on : DayDistance → DayAnswer
answer_on moon = answer_at moon.day moon.distance

-- The extinguished day of the new moon at a place of a year, from 1; DAY where the year lacks it.
unfoldable pub extinguished_of : ℕ → ℕ → ℕ → DayAnswer
extinguished_of system year place =
    let days = extinguished_days_of system year in
    cond (eqb days.refusal 0)
    (cond (outside 1 days.count place) (no_answer DAY) (answer_on (get_or days.moons (place - 1) unused)))
    (no_answer days.refusal)
