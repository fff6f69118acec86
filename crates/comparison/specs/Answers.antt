-- What the papers call the answer of a comparison: the number of its refusal, 0 where it was answered, and the places,
-- none of which is listed where it was refused (see `Comparisons`).
use Rattle.std.specs.Prelude.{ℕ, List}
use Rattle.comparison.specs.declared.data.Listed.{Listed}

pub record ComparisonAnswer : Type 0 where
  pub refusal : ℕ
  pub count : ℕ
  pub places : List Listed
