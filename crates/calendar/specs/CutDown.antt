-- A quotient cut down to a whole number.
use Rattle.std.specs.Prelude.{ℕ, ◌+◌, ◌*◌, ◌≤◌, ◌<◌}

-- `whole` is numerator by denominator, cut down: so much is no more than the quotient, and one more is more.
abbrev pub CutDown : ℕ → ℕ → ℕ → Type 0
CutDown numerator denominator whole = (whole * denominator ≤ numerator) × (numerator < (whole + 1) * denominator)
