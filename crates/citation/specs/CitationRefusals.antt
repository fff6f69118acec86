-- Numbered refusals: paper 01's table with the rows of paper 02, Q-3 and Q-7, a definition a row, in its order.
use Rattle.std.specs.Prelude.{ℕ, ◌<◌, ◌≡◌, ◌⊎◌, List, [], ◌∷◌, ◌++◌, length}
use Rattle.calendar.specs.Inside.{Inside}
use Rattle.calendar.specs.Systems.{IsRegisterDay}
use Rattle.calendar.specs.SixtyDayName.{name_of}
use Rattle.calendar.specs.Month.{InMonth, month_length}
use Rattle.calendar.specs.Year.{Span, year_length, LeapNumber}
use Rattle.reckoning.specs.RefusalNumbers.{SHORT, KIND, RETIRED, LENGTH, SYSTEM, YEAR, MONTH, LEAP, DAY, OUTPUT}
use Rattle.reckoning.specs.WordedRefusals.{Row, ◌when◌, FirstOf}
use Rattle.reckoning.specs.Scope.{SystemInScope, YearInScope, NoSuchMonth, NotLeap, DayInScope}
use Rattle.citation.specs.Record.{length_field, kind_of, system_of, kind_length, year_field, month_field, leap_field}
use Rattle.citation.specs.Record.{day_field, name_field, ordinal_field, register_day_field}
use Rattle.citation.specs.DayCited.{constants_in, elapsed_in, CitedMonth}

-- SHORT: too few bytes for a length field and a kind.
abbrev pub TooShort : List ℕ → Type 0
TooShort s = length s < 4

-- KIND: a kind that there is not.
abbrev pub WrongKind : List ℕ → Type 0
WrongKind s = Inside 1 5 (kind_of s) → ⊥

-- RETIRED, right after it: kind 2, which cited a day by its name counted from 0.
abbrev pub RetiredKind : List ℕ → Type 0
RetiredKind s = kind_of s ≡ 2

-- LENGTH: the length field, or the number of bytes handed in, is not the kind's.
abbrev pub WrongLength : List ℕ → Type 0
WrongLength s = (length_field s ≡ kind_length (kind_of s)) × (length s ≡ length_field s) → ⊥

-- SYSTEM: a system that there is not.
abbrev pub WrongSystem : List ℕ → Type 0
WrongSystem s = SystemInScope (system_of s) → ⊥

-- Kinds 1 and 5 have a month.
abbrev pub HasMonth : List ℕ → Type 0
HasMonth s = (kind_of s ≡ 1) ⊎ (kind_of s ≡ 5)

-- YEAR: a year out of scope, in the kinds that have one.
abbrev pub WrongYear : List ℕ → Type 0
WrongYear s = (HasMonth s ⊎ (kind_of s ≡ 3)) × (YearInScope (year_field s) → ⊥)

-- MONTH: a month that there is not, in the kinds that have one.
abbrev pub WrongMonth : List ℕ → Type 0
WrongMonth s = HasMonth s × NoSuchMonth (month_field s) (leap_field s)

-- LEAP, right after it: a leap month that the year has not, in the same kinds.
abbrev pub WrongLeap : List ℕ → Type 0
WrongLeap s = HasMonth s × NotLeap (constants_in s) (elapsed_in s) (month_field s) (leap_field s)

-- What is cited exists: the month has the day, or a day of the name; the year has the ordinal; the register day lies in
-- years 1 to 3000.
pub data Placed (s : List ℕ) : Type 0 where
  day_in_month : kind_of s ≡ 1 → (k : ℕ) → CitedMonth s k → Inside 1 (month_length (constants_in s) k) (day_field s) → Placed s
  name_in_month : kind_of s ≡ 5
      → (k d r : ℕ)
      → CitedMonth s k
      → InMonth (constants_in s) k d
      → IsRegisterDay (constants_in s) r d
      → name_of r ≡ name_field s
      → Placed s
  ordinal_in_year : kind_of s ≡ 3 → (y : Span (constants_in s) (elapsed_in s)) → Inside 1 (year_length y) (ordinal_field s) → Placed s
  day_in_scope : kind_of s ≡ 4 → DayInScope (system_of s) (register_day_field s) → Placed s

-- DAY: what is cited does not exist.
abbrev pub NotPlaced : List ℕ → Type 0
NotPlaced s = Placed s → ⊥

-- OUTPUT: an output too short for a stored record.
abbrev pub NoRoom : ℕ → Type 0
NoRoom room = room < 10

-- The rows on what a record says,
abbrev pub content_rows : List ℕ → List Row
content_rows s =
    SYSTEM when WrongSystem s ∷ YEAR when WrongYear s
    ∷ MONTH when WrongMonth s ∷ LEAP when WrongLeap s ∷ DAY when NotPlaced s ∷ []

-- after those on whether it is a record at all: these judge a citation by its bytes,
abbrev pub citation_rows : List ℕ → List Row
citation_rows s =
    SHORT when TooShort s ∷ KIND when WrongKind s ∷ RETIRED when RetiredKind s ∷ LENGTH when WrongLength s ∷ content_rows s

-- and a storing by its output too.
abbrev pub storing_rows : List ℕ → ℕ → List Row
storing_rows s room = citation_rows s ++ (OUTPUT when NoRoom room ∷ [])

-- Accepted: none of those on its bytes applies.
abbrev pub Accepted : List ℕ → Type 0
Accepted s = FirstOf (citation_rows s) 0

-- What is told with a refusal number, and with 0 when accepted: with LEAP, and only with it, the leap month of the
-- year cited, or 0 if it has none.
abbrev pub Tells : List ℕ → ℕ → ℕ → Type 0
Tells s number told =
    ((number ≡ LEAP) × LeapNumber (constants_in s) (elapsed_in s) told) ⊎ ((number ≡ LEAP → ⊥) × (told ≡ 0))
