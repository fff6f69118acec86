-- Text written into an output.
use Rattle.std.specs.Prelude.{ℕ, ◌+◌, ◌≤◌, ◌≡◌, List, ◌++◌, length, take, drop}

-- `text` was written into `before` at `at`, the rest left; it ends at `end`.
pub record Wrote (before : List ℕ) (at : ℕ) (text after : List ℕ) (end : ℕ) : Type 0 where
  pub is : after ≡ take at before ++ (text ++ drop (at + length text) before)
  pub ends : end ≡ at + length text
  pub fits : end ≤ length before
  pub same_length : length after ≡ length before
