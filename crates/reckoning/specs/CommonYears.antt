-- Common years told from years elapsed.
use Rattle.std.specs.Prelude.{ℕ, ◌+◌, ◌-◌, Bool, ◌||◌, ltb, leb}
use Rattle.calendar.specs.declared.data.Constants.{Constants}

-- The common year at n years elapsed: `years_elapsed` inverted.
abbrev pub common_year : Constants → ℕ → ℕ
common_year c n = n + c.common - c.elapsed

-- It is not one of years 1 to 3000.
abbrev pub out_of_scope : Constants → ℕ → Bool
out_of_scope c n = leb (n + c.common) c.elapsed || ltb (c.elapsed + 3000) (n + c.common)
