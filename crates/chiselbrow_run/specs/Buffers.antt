-- What the run's buffers have room for.
use Rattle.std.specs.Prelude.{ℕ, ◌+◌, ◌*◌, ◌≤◌, List, length}

-- The input has room for the longest record, and the output for the lines of a full input.
abbrev pub Buffers : List ℕ → List ℕ → Type 0
Buffers input out = (64 ≤ length input) × (16 * length input + 64 ≤ length out)
