-- A record at the front of a lent output.
use Rattle.std.specs.Prelude.{ℕ, cond, List, ◌++◌, leb, length, drop}

-- It stands in the first ten bytes, and the rest is left; an output with fewer is as it was.
unfoldable pub record_into : List ℕ → List ℕ → List ℕ
record_into bytes before = cond (leb 10 (length before)) (bytes ++ drop 10 before) before
