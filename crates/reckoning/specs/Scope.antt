-- What is in scope, and so when refusals SYSTEM, YEAR, MONTH and LEAP apply, and DAY to a register day: paper 01,
-- "Numbered refusals", and paper 02, Q-3, Q-4 and Q-6.
use Rattle.std.specs.Prelude.{ℕ, ◌≤◌, ◌<◌, ◌≡◌, ◌⊎◌}
use Rattle.calendar.specs.declared.data.Constants.{Constants}
use Rattle.calendar.specs.Inside.{Inside}
use Rattle.calendar.specs.Systems.{last_system, constants_of, years_elapsed, IsRegisterDay}
use Rattle.calendar.specs.Steps.{solstice_day}
use Rattle.calendar.specs.Year.{Span, year_head, HasLeap}

-- Systems 1 to 3, as many as `systems` lists; refusal SYSTEM is for any other,
abbrev pub SystemInScope : ℕ → Type 0
SystemInScope system = Inside 1 last_system system

-- and years 1 to 3000; refusal YEAR is for any other.
abbrev pub YearInScope : ℕ → Type 0
YearInScope year = Inside 1 3000 year

-- A system and a year that a request is answered for.
pub record InScope (system year : ℕ) : Type 0 where
  pub system_inside : SystemInScope system
  pub year_inside : YearInScope year

-- Refusal MONTH: a number or a leap mark that no month has.
abbrev pub NoSuchMonth : ℕ → ℕ → Type 0
NoSuchMonth number leap = (Inside 1 12 number → ⊥) ⊎ (Inside 0 1 leap → ⊥)

-- Refusal LEAP: the leap mark, where year n has no leap month of that number.
abbrev pub NotLeap : Constants → ℕ → ℕ → ℕ → Type 0
NotLeap c n number leap = (leap ≡ 1) × (HasLeap c n number → ⊥)

-- The register days of years 1 to 3000, by the heads of years 1 and 3001; a citation by register day and a request for
-- a date are refused DAY for any other.
pub record DayInScope (system r : ℕ) : Type 0 where
  -- its count day
  pub day : ℕ
  pub is_day : IsRegisterDay (constants_of system) r day
  pub first : Span (constants_of system) (years_elapsed (constants_of system) 1)
  pub past : Span (constants_of system) (years_elapsed (constants_of system) 3001)
  pub from : year_head first ≤ day
  pub before : day < year_head past

-- The register days of years 1 to 3000 counted from solstice to solstice, by the solstice days of years 1 and 3001; a
-- request for the pentad in force is refused DAY for any other.
pub record SolarDayInScope (system r : ℕ) : Type 0 where
  -- its count day
  pub day : ℕ
  pub is_day : IsRegisterDay (constants_of system) r day
  pub from : solstice_day (constants_of system) (years_elapsed (constants_of system) 1) ≤ day
  pub before : day < solstice_day (constants_of system) (years_elapsed (constants_of system) 3001)
