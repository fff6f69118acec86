-- A calendar as the laws need it: four functions and what holds of them. Nothing here speaks of parts in a day.
use Rattle.std.specs.Prelude.{ℕ, ◌+◌, ◌≤◌, ◌<◌}

-- Months k, count days d and middle qi g are counted from the epoch; g goes on across years, twelve to a year.
pub record Calendar : Type 0 where
  -- the first day of month k
  pub head : ℕ → ℕ
  -- the month that has day d
  pub month_of_day : ℕ → ℕ
  -- the month that holds middle qi g
  pub month_of_qi : ℕ → ℕ
  -- the last middle qi held by month k or a month before it
  pub qi_of_month : ℕ → ℕ
  pub month_least : (k : ℕ) → head k + 29 ≤ head (k + 1)
  pub month_most : (k : ℕ) → head (k + 1) ≤ head k + 30
  pub twelve_least : (k : ℕ) → head k + 354 ≤ head (k + 12)
  pub twelve_most : (k : ℕ) → head (k + 12) ≤ head k + 355
  pub thirteen_least : (k : ℕ) → head k + 383 ≤ head (k + 13)
  pub thirteen_most : (k : ℕ) → head (k + 13) ≤ head k + 384
  -- no month holds two middle qi, and twelve of them take at most thirteen months
  pub qi_rises : (g : ℕ) → month_of_qi g < month_of_qi (g + 1)
  pub year_most : (g : ℕ) → month_of_qi (g + 12) ≤ month_of_qi g + 13
  -- each function of the pairs inverts the other
  pub day_from : (d : ℕ) → head (month_of_day d) ≤ d
  pub day_before : (d : ℕ) → d < head (month_of_day d + 1)
  pub qi_from : (k : ℕ) → month_of_qi (qi_of_month k) ≤ k
  pub before_next_qi : (k : ℕ) → k < month_of_qi (qi_of_month k + 1)
