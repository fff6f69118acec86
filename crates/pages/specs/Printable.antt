-- A year's months that can be told by their places: they tile the year, and so are thirteen at most.
use Rattle.std.specs.Prelude.{◌≤◌}
use Rattle.reckoning.specs.Answers.{YearAnswer}
use Rattle.reckoning.specs.YearValue.{Tiled}

pub record Printable (months : YearAnswer) : Type 0 where
  pub tiled : Tiled months
  pub thirteen_at_most : months.count ≤ 13
