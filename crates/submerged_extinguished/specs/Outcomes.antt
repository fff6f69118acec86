-- How a request for a submerged or an extinguished day can end, by the reckoning: paper 02, Q-10, in its words.
use Rattle.std.specs.Prelude.{ℕ, ◌+◌, ◌*◌, ◌≤◌, ◌<◌, ◌≡◌, None}
use Rattle.calendar.specs.declared.data.Constants.{Constants}
use Rattle.calendar.specs.Systems.{constants_of, years_elapsed, IsRegisterDay}
use Rattle.calendar.specs.Qi.{qi}
use Rattle.calendar.specs.Month.{new_moon_remainder, month_head}
use Rattle.calendar.specs.Year.{InYear}
use Rattle.reckoning.specs.RefusalNumbers.{SYSTEM, YEAR, DAY, STEP}
use Rattle.reckoning.specs.Scope.{YearInScope}
use Rattle.submerged_extinguished.specs.Records.{DayAnswer}
use Rattle.submerged_extinguished.specs.Rules.{HasRule, rule_of}
use Rattle.submerged_extinguished.specs.Distances.{SubmergedSays, ExtinguishedSays}

-- Refused: the number, day 0 and no distance.
pub record Refused (number : ℕ) (v : DayAnswer) : Type 0 where
  pub carries : v.refusal ≡ number
  pub no_day : v.day.0 ≡ 0
  pub no_distance : v.distance ≡ None

-- Qi i of year n falls on count day `day`, and `remainder` small units, less than a day has, are left over.
pub record QiFalls (c : Constants) (n i day remainder : ℕ) : Type 0 where
  pub moment : day * (c.solar * c.units) + remainder ≡ qi c n i
  pub below : remainder < c.solar * c.units

-- The submerged day of a qi, answered: the qi's day, and the distance by its remainder.
pub record SubmergedFound (system year i : ℕ) (v : DayAnswer) : Type 0 where
  pub has_rule : HasRule system
  pub year_inside : YearInScope year
  pub qi_inside : i ≤ 24
  pub not_refused : v.refusal ≡ 0
  pub day : ℕ
  pub remainder : ℕ
  pub falls : QiFalls (constants_of system) (years_elapsed (constants_of system) year) i day remainder
  pub is_day : IsRegisterDay (constants_of system) v.day.0 day
  pub says : SubmergedSays (constants_of system) (rule_of system) remainder v.distance

-- Refused SYSTEM, then YEAR, then STEP for a qi above 24; or answered.
pub data SubmergedOutcome (system year i : ℕ) (v : DayAnswer) : Type 0 where
  system_refused : (HasRule system → ⊥) → Refused SYSTEM v → SubmergedOutcome system year i v
  year_refused : HasRule system → (YearInScope year → ⊥) → Refused YEAR v → SubmergedOutcome system year i v
  qi_refused : HasRule system → YearInScope year → 24 < i → Refused STEP v → SubmergedOutcome system year i v
  found : SubmergedFound system year i v → SubmergedOutcome system year i v

-- A new moon is named by its place in year n, from 1: that of month k, which it begins.
pub record AtPlace (c : Constants) (n place k : ℕ) : Type 0 where
  pub in_year : InYear c n k
  pub place_is : in_year.span.first + place ≡ k + 1

-- The extinguished day of a new moon, answered: the new moon's day, and the distance by its remainder.
pub record ExtinguishedFound (system year place : ℕ) (v : DayAnswer) : Type 0 where
  pub has_rule : HasRule system
  pub year_inside : YearInScope year
  pub k : ℕ
  pub at_place : AtPlace (constants_of system) (years_elapsed (constants_of system) year) place k
  pub not_refused : v.refusal ≡ 0
  pub is_day : IsRegisterDay (constants_of system) v.day.0 (month_head (constants_of system) k)
  pub says : ExtinguishedSays (rule_of system) (new_moon_remainder (constants_of system) k) v.distance

-- Refused SYSTEM, then YEAR, then DAY for a place that the year lacks; or answered.
pub data ExtinguishedOutcome (system year place : ℕ) (v : DayAnswer) : Type 0 where
  system_refused : (HasRule system → ⊥) → Refused SYSTEM v → ExtinguishedOutcome system year place v
  year_refused : HasRule system → (YearInScope year → ⊥) → Refused YEAR v → ExtinguishedOutcome system year place v
  place_refused : HasRule system
      → YearInScope year
      → ((k : ℕ) → AtPlace (constants_of system) (years_elapsed (constants_of system) year) place k → ⊥)
      → Refused DAY v
      → ExtinguishedOutcome system year place v
  found : ExtinguishedFound system year place v → ExtinguishedOutcome system year place v
