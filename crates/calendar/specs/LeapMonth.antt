-- The leap month of a year: its number, and the middle qi that it lies between.
use Rattle.std.specs.Prelude.{ℕ, zero, suc, ◌+◌, ◌*◌, ◌≤◌, ◌<◌, ◌≡◌, Bool, true, false, cond, ltb}
use Rattle.calendar.specs.declared.data.Constants.{Constants}
use Rattle.calendar.specs.ClosedForms.{month_of_qi, first_month, leap_follows}

-- The last number up to `most` whose month a leap month follows in year n; 0 where there is none.
unfoldable pub last_leap : Constants → ℕ → ℕ → ℕ
last_leap c n zero = 0
last_leap c n (suc most) = cond (leap_follows c n (suc most)) (suc most) (last_leap c n most)

-- The number of year n's leap month, and 0 where it has none.
abbrev pub leap_number : Constants → ℕ → ℕ
leap_number c n = last_leap c n 12

-- None of the months up to that of middle qi i of year n is leap: that month is no later than i months after the year's
-- first. i may go on past the year.
abbrev pub no_leap_up_to : Constants → ℕ → ℕ → Bool
no_leap_up_to c n i = ltb (month_of_qi c (12 * n + i)) (first_month c n + i + 1)

-- None of the months up to that of middle qi `low` is leap, and one up to that of `high` is; a `high` of 16 says nothing.
pub record LeapBetween (c : Constants) (n low high : ℕ) : Type 0 where
  pub below : low < high
  pub most : high ≤ 16
  pub none : no_leap_up_to c n low ≡ true
  pub some : high < 16 → no_leap_up_to c n high ≡ false
