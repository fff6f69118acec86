-- Years: their months and their days. A year is told by n, the years elapsed since the epoch.
use Rattle.std.specs.Prelude.{ℕ, zero, suc, ◌+◌, ◌-◌, ◌≤◌, ◌<◌, ◌≡◌, ◌⊎◌}
use Rattle.calendar.specs.declared.data.Constants.{Constants}
use Rattle.calendar.specs.Steps.{solstice_day}
use Rattle.calendar.specs.Month.{month_head, InMonth, month_length, Bears, Marked}

-- Paper 02, Q-2, a year's beginning: year n begins with month k when the solstice's day is one of the month's days.
abbrev pub Begins : Constants → ℕ → ℕ → Type 0
Begins c n k = InMonth c k (solstice_day c n)

-- What bounds year n: the month that it begins with, and the month so found for the year after.
pub record Span (c : Constants) (n : ℕ) : Type 0 where
  pub first : ℕ
  pub next : ℕ
  pub begins : Begins c n first
  pub ends : Begins c (n + 1) next

-- How many months a year has.
abbrev pub month_count : {c : Constants} {n : ℕ} → Span c n → ℕ
month_count y = y.next - y.first

-- A head, the customer's own term, is a first day: a year's is its first month's.
abbrev pub year_head : {c : Constants} {n : ℕ} → Span c n → ℕ
year_head {c} y = month_head c y.first

abbrev pub next_head : {c : Constants} {n : ℕ} → Span c n → ℕ
next_head {c} y = month_head c y.next

-- How many days a year has.
abbrev pub year_length : {c : Constants} {n : ℕ} → Span c n → ℕ
year_length y = next_head y - year_head y

-- The lengths of `count` months from month k on, added up.
unfoldable pub lengths_from : Constants → ℕ → ℕ → ℕ
lengths_from c k zero = 0
lengths_from c k (suc count) = month_length c k + lengths_from c (k + 1) count

-- Month k is one of year n.
pub record InYear (c : Constants) (n k : ℕ) : Type 0 where
  pub span : Span c n
  pub from : span.first ≤ k
  pub before : k < span.next

-- Count day d is one of year n, which runs from head to head.
pub record DayOfYear (c : Constants) (n d : ℕ) : Type 0 where
  pub span : Span c n
  pub from : year_head span ≤ d
  pub before : d < next_head span

-- The day of a year by its ordinal, from 1.
abbrev pub day_of_ordinal : {c : Constants} {n : ℕ} → Span c n → ℕ → ℕ
day_of_ordinal y ordinal = year_head y + ordinal - 1

-- Month k of year n, known by its number and leap mark.
pub record MonthNumbered (c : Constants) (n number mark k : ℕ) : Type 0 where
  pub in_year : InYear c n k
  pub bears : Bears c k number
  pub marked : Marked c k mark

-- Year n has a leap month with a number.
pub record HasLeap (c : Constants) (n number : ℕ) : Type 0 where
  pub month : ℕ
  pub is_leap : MonthNumbered c n number 1 month

-- Paper 02, Q-3, what is told with refusal LEAP: the number of year n's leap month, or 0 if it has none.
abbrev pub LeapNumber : Constants → ℕ → ℕ → Type 0
LeapNumber c n told = HasLeap c n told ⊎ ((told ≡ 0) × ((number : ℕ) → HasLeap c n number → ⊥))
