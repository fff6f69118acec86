-- Text put into an output where there is room for it.
use Rattle.std.specs.Prelude.{ℕ, ◌+◌, ◌≤◌, ◌≡◌, cond, List, ◌++◌, ltb, length, take, drop}

-- An output with `text` put at `at`, the rest left; unchanged where fewer than `room` bytes are left there.
unfoldable pub put_into : List ℕ → ℕ → ℕ → List ℕ → List ℕ
put_into before at room text =
    cond (ltb (length before) (at + room)) before (take at before ++ (text ++ drop (at + length text) before))

-- The place after it; `at` itself where nothing was put.
unfoldable pub put_end : List ℕ → ℕ → ℕ → List ℕ → ℕ
put_end before at room text = cond (ltb (length before) (at + room)) at (at + length text)

-- `text`, of at most `room` bytes, was put at `at` if there was room.
pub record Put (before : List ℕ) (at room : ℕ) (text after : List ℕ) (end : ℕ) : Type 0 where
  pub is : after ≡ put_into before at room text
  pub ends : end ≡ put_end before at room text
  pub near : end ≤ at + room
