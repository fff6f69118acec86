-- What kind 2 meant before it was retired: a citation by name, with names from 0 (jiazi) to 59 (guihai), by paper 01 as
-- paper 02, Q-2, Q-3 and Q-6, had it. Only the theorem on converted records cites it.
use Rattle.std.specs.Prelude.{ℕ, ◌+◌, ◌*◌, ◌^◌, ◌%◌, ◌<◌, ◌≡◌, List, [], ◌∷◌, ◌++◌, length, drop}
use Rattle.calendar.specs.Systems.{IsRegisterDay}
use Rattle.calendar.specs.Month.{InMonth}
use Rattle.reckoning.specs.RefusalNumbers.{SYSTEM, YEAR, MONTH, LEAP, DAY, OUTPUT}
use Rattle.reckoning.specs.WordedRefusals.{Row, ◌when◌, FirstOf}
use Rattle.reckoning.specs.Scope.{YearInScope, NoSuchMonth, NotLeap}
use Rattle.citation.specs.Record.{system_of, year_field, month_field, leap_field, name_field, record_of}
use Rattle.citation.specs.DayCited.{constants_in, elapsed_in, CitedMonth, OnDate}
use Rattle.citation.specs.CitationRefusals.{WrongSystem, NoRoom, Tells}

-- It named the day of its month that bore the name: the remainder of the register day and 49 by 60.
pub record NamedDay (s : List ℕ) (r : ℕ) : Type 0 where
  pub k : ℕ
  pub d : ℕ
  pub cited : CitedMonth s k
  pub in_month : InMonth (constants_in s) k d
  pub is_day : IsRegisterDay (constants_in s) r d
  pub bears : (r + 49) % 60 ≡ name_field s

-- The refusals of a whole record of it, in their order; DAY where no day of the month bore the name.
abbrev pub former_rows : List ℕ → ℕ → List Row
former_rows s room =
    SYSTEM when WrongSystem s
    ∷ YEAR when (YearInScope (year_field s) → ⊥)
    ∷ MONTH when NoSuchMonth (month_field s) (leap_field s)
    ∷ LEAP when NotLeap (constants_in s) (elapsed_in s) (month_field s) (leap_field s)
    ∷ DAY when ((r : ℕ) → NamedDay s r → ⊥)
    ∷ OUTPUT when NoRoom room ∷ []

-- A storing of such a record answered this, and left the output so: refused by the first that applied, with the leap
-- month told after LEAP, and the output as it was; or with the day named, and the record of its date in the first ten
-- bytes.
pub data FormerlyStored (s before : List ℕ) (answer : ℕ) (after : List ℕ) : Type 0 where
  refused : (number told : ℕ) → 0 < number → FirstOf (former_rows s (length before)) number → Tells s number told
      → answer ≡ number * 2 ^ 32 + told * 2 ^ 40
      → after ≡ before
      → FormerlyStored s before answer after
  accepted : FirstOf (former_rows s (length before)) 0
      → (year month leap day : ℕ)
      → NamedDay s answer
      → OnDate (system_of s) answer year month leap day
      → after ≡ record_of (system_of s) year month leap day ++ drop 10 before
      → FormerlyStored s before answer after
