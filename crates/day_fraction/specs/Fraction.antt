-- The fraction of a day that a count of parts is: paper 02, Q-11.
use Rattle.std.specs.Prelude.{ℕ, false, pos, Float}
use Rattle.std.specs.Float.{fin, binary64}
use Rattle.std.specs.Float.Ieee.{of_int, div}

-- "Each fraction one division of the parts by D, rounded once", of two numbers that are floats exactly.
abbrev pub fraction_of : ℕ → ℕ → Float
fraction_of in_day parts = div binary64 (of_int binary64 (pos parts)) (of_int binary64 (pos in_day))

-- Zero and one as floats: not negative, and so many times 2^0.
abbrev pub zero_float : Float
zero_float = fin false 0 (pos 0)

abbrev pub one_float : Float
one_float = fin false 1 (pos 0)
