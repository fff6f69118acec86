-- A number that is `least` to `most`.
use Rattle.std.specs.Prelude.{ℕ, ◌≤◌}

pub record Inside (least most x : ℕ) : Type 0 where
  pub at_least : least ≤ x
  pub at_most : x ≤ most
