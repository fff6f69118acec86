-- What the demands ask for, in words: what a storing leaves, the one record of a day, and how months tile a year.
use Rattle.std.specs.Prelude.{ℕ, ◌≤◌, ◌≡◌, ◌⊎◌, List, length, take}
use Rattle.calendar.specs.declared.data.Constants.{Constants}
use Rattle.calendar.specs.ExactlyOne.{ExactlyOne}
use Rattle.calendar.specs.Systems.{constants_of, IsRegisterDay}
use Rattle.calendar.specs.Month.{InMonth, month_length, HoldsSome, Lacks}
use Rattle.calendar.specs.Year.{Span, month_count, InYear, DayOfYear}
use Rattle.little_endian.specs.Bytes.{Bytes}
use Rattle.citation.specs.Record.{kind_of, system_of}
use Rattle.citation.specs.DayCited.{NamesDay}
use Rattle.citation.specs.CitationRefusals.{Accepted}
use Rattle.citation.specs.Store.{stored_into}

-- A stored record: the first ten bytes of the output after a storing.
abbrev pub stored : List ℕ → List ℕ → List ℕ
stored s before = take 10 (stored_into s before)

-- Count day d has one stored record in a system. It is bytes, an accepted citation of kind 1 for that day; whatever
-- accepted citation names the day is stored as it; and no other citation of kind 1 names the day in that system.
pub record OneRecord (system d : ℕ) : Type 0 where
  -- its register day
  pub day : ℕ
  pub is_day : IsRegisterDay (constants_of system) day d
  pub it : List ℕ
  pub bytes : Bytes it
  pub accepted : Accepted it
  pub is_kind_one : kind_of it ≡ 1
  pub in_system : system_of it ≡ system
  pub names : NamesDay it day
  pub every_storing : (s before : List ℕ) → Accepted s → 10 ≤ length before → system_of s ≡ system → NamesDay s day → stored s before ≡ it
  pub no_other : (t : List ℕ) → Bytes t → Accepted t → kind_of t ≡ 1 → system_of t ≡ system → NamesDay t day → t ≡ it

-- How the months of year n tile it.
pub record MonthsTile (c : Constants) (n : ℕ) : Type 0 where
  pub year : Span c n
  pub twelve_or_thirteen : (month_count year ≡ 12) ⊎ (month_count year ≡ 13)
  pub lengths : (k : ℕ) → InYear c n k → (month_length c k ≡ 29) ⊎ (month_length c k ≡ 30)
  pub each_day_once : (d : ℕ) → DayOfYear c n d → ExactlyOne (λ k. InYear c n k × InMonth c k d)
  pub no_day_more : (k d : ℕ) → InYear c n k → InMonth c k d → DayOfYear c n d
  pub of_twelve_none : month_count year ≡ 12 → (k : ℕ) → InYear c n k → HoldsSome c k
  pub of_thirteen_one : month_count year ≡ 13 → ExactlyOne (λ k. InYear c n k × Lacks c k)
