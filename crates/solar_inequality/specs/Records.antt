-- What the papers call an answer: the number of its refusal, 0 where it was answered, and the amount, 0 where it was
-- refused.
use Rattle.std.specs.Prelude.{ℕ}

pub record AmountAnswer : Type 0 where
  pub refusal : ℕ
  pub amount : ℕ
