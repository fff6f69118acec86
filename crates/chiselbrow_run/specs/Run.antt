-- Turn after turn: what is written when the reads give these bytes, one after another, and then the input ends.
use Rattle.std.specs.Prelude.{ℕ, List}
use Rattle.framing.specs.Run.{run_by}
use Rattle.lines.specs.Program.{line_writer}

abbrev pub run_of : List ℕ → List (List ℕ) → List ℕ
run_of kept reads = run_by line_writer kept reads
