-- How what the code returns tells a refusal.
use Rattle.std.specs.Prelude.{ℕ, Option, Some, None}
use Rattle.reckoning.specs.declared.refusal.Refusal.{Refusal}
use Rattle.reckoning.specs.RefusalNumbers.{number_of}

-- The refusal of a record that is left: its number, or 0.
abbrev pub told_left : Option Refusal → ℕ
told_left None = 0
told_left (Some r) = number_of r
