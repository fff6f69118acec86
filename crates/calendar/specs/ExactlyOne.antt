-- There is exactly one number with a property.
use Rattle.std.specs.Prelude.{ℕ, ◌≡◌}

pub record ExactlyOne (P : ℕ → Type 0) : Type 0 where
  pub it : ℕ
  pub has : P it
  pub only : (x : ℕ) → P x → x ≡ it
