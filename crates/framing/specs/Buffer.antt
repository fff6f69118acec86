-- Bytes in a buffer.
use Rattle.std.specs.Prelude.{ℕ, List, ◌++◌, length, drop}

-- A buffer with some bytes at its front, the rest as it was.
abbrev pub at_front : List ℕ → List ℕ → List ℕ
at_front bytes before = bytes ++ drop (length bytes) before
