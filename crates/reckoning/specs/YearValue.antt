-- What the value of a year's months holds, in the paper's words.
use Rattle.std.specs.Prelude.{ℕ, ◌+◌, ◌*◌, ◌≤◌, ◌<◌, ◌≡◌, ◌⊎◌, ◌↔◌, [], ◌∷◌, length, get_or}
use Rattle.calendar.specs.declared.data.Constants.{Constants}
use Rattle.calendar.specs.ExactlyOne.{ExactlyOne}
use Rattle.calendar.specs.Systems.{IsRegisterDay}
use Rattle.calendar.specs.Steps.{day_of}
use Rattle.calendar.specs.Month.{new_moon_remainder, month_head, middle_qi, number_of, Bears, Marked, none_held, HeldTold, indexes_told}
use Rattle.calendar.specs.Year.{Span, month_count, next_head}
use Rattle.reckoning.specs.Answers.{YearAnswer}
use Rattle.reckoning.specs.Requests.{as_register_day}

-- The head, number, leap mark, remainder and middle qi held at place i, from 0.
abbrev pub head_in : YearAnswer → ℕ → ℕ
head_in v i = (get_or v.heads i (as_register_day 0)).0

abbrev pub number_in : YearAnswer → ℕ → ℕ
number_in v i = get_or v.numbers i 0

abbrev pub leap_in : YearAnswer → ℕ → ℕ
leap_in v i = get_or v.leaps i 0

abbrev pub remainder_in : YearAnswer → ℕ → ℕ
remainder_in v i = get_or v.remainders i 0

abbrev pub held_in : YearAnswer → ℕ → ℕ
held_in v i = get_or v.held i 0

-- The value holds the months of year n by the reckoning: their count, in order each head, number, leap mark, new moon's
-- remainder and middle qi held, then the next year's head; in unused places 0, and the mark that none is held.
pub record ListsMonths (c : Constants) (n : ℕ) (v : YearAnswer) : Type 0 where
  pub accepted : v.refusal ≡ 0
  pub places : (length v.heads ≡ 14)
      × (length v.numbers ≡ 14)
      × (length v.leaps ≡ 14)
      × (length v.remainders ≡ 14)
      × (length v.held ≡ 14)
  pub span : Span c n
  pub count : v.count ≡ month_count span
  pub head : (i : ℕ) → i < v.count → IsRegisterDay c (head_in v i) (month_head c (span.first + i))
  pub next : IsRegisterDay c (head_in v v.count) (next_head span)
  pub number : (i : ℕ) → i < v.count → Bears c (span.first + i) (number_in v i)
  pub leap : (i : ℕ) → i < v.count → Marked c (span.first + i) (leap_in v i)
  pub remainder : (i : ℕ) → i < v.count → remainder_in v i ≡ new_moon_remainder c (span.first + i)
  pub held : (i : ℕ) → i < v.count → HeldTold c (span.first + i) n (held_in v i)
  pub unused_head : (i : ℕ) → v.count < i → head_in v i ≡ 0
  pub unused_number : (i : ℕ) → v.count ≤ i → number_in v i ≡ 0
  pub unused_leap : (i : ℕ) → v.count ≤ i → leap_in v i ≡ 0
  pub unused_remainder : (i : ℕ) → v.count ≤ i → remainder_in v i ≡ 0
  pub unused_held : (i : ℕ) → v.count ≤ i → i < 14 → held_in v i ≡ none_held

-- What demand 3 says of months, said of the value: twelve or thirteen months of 29 or 30 days tile the year's days;
-- of twelve none has the leap mark, and of thirteen exactly one does.
pub record Tiled (v : YearAnswer) : Type 0 where
  pub months : (v.count ≡ 12) ⊎ (v.count ≡ 13)
  pub days : (i : ℕ) → i < v.count → (head_in v (i + 1) ≡ head_in v i + 29) ⊎ (head_in v (i + 1) ≡ head_in v i + 30)
  pub tile : (r : ℕ) → head_in v 0 ≤ r → r < head_in v v.count
      → ExactlyOne (λ i. (i < v.count) × (head_in v i ≤ r) × (r < head_in v (i + 1)))
  pub twelve : v.count ≡ 12 → (i : ℕ) → i < 12 → leap_in v i ≡ 0
  pub thirteen : v.count ≡ 13 → ExactlyOne (λ i. (i < 13) × (leap_in v i ≡ 1))

-- What paper 02, Q-9, says of the value of year n: over its months, marks, numbers and heads agree.
pub record MonthsAgree (c : Constants) (n : ℕ) (v : YearAnswer) : Type 0 where
  -- leap exactly when none is held
  pub leap_just_when_none : (i : ℕ) → i < v.count → (leap_in v i ≡ 1) ↔ (held_in v i ≡ none_held)
  -- otherwise an index is told, 0 to 11, and the number is that of the index; a leap month has that of the month before
  pub number_by_index : (i : ℕ) → i < v.count → leap_in v i ≡ 0 → (held_in v i < 12) × (number_in v i ≡ number_of (held_in v i))
  pub leap_repeats : (i : ℕ) → i + 1 < v.count → leap_in v (i + 1) ≡ 1 → number_in v (i + 1) ≡ number_in v i
  -- the indexes held rise from 0 to 11 without a gap, leap months passed over
  pub indexes : indexes_told (held_in v) v.count ≡ 0 ∷ 1 ∷ 2 ∷ 3 ∷ 4 ∷ 5 ∷ 6 ∷ 7 ∷ 8 ∷ 9 ∷ 10 ∷ 11 ∷ []
  -- the day of the middle qi held, told as a register day, lies between the heads
  pub qi_inside : (i r : ℕ) → i < v.count → leap_in v i ≡ 0
      → IsRegisterDay c r (day_of c c.units (middle_qi c n (held_in v i)))
      → (head_in v i ≤ r) × (r < head_in v (i + 1))
  -- from one new moon of the year to the next, by the count days of their heads and their remainders, are M parts
  pub next_moon : (i d e : ℕ) → i + 1 < v.count → IsRegisterDay c (head_in v i) d → IsRegisterDay c (head_in v (i + 1)) e
      → e * c.lunar + remainder_in v (i + 1) ≡ d * c.lunar + remainder_in v i + c.month
