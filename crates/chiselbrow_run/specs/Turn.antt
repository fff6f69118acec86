-- One turn of the run: the bytes in the buffer are answered as far as they are whole records.
use Rattle.std.specs.Prelude.{◌≡◌, ℕ, ◌-◌, ◌<◌, ◌≤◌, Bool, true, not, List, length}
use Rattle.framing.specs.Framing.{rest_of}
use Rattle.framing.specs.Buffer.{at_front}
use Rattle.framing.specs.Run.{stops, turn_by}
use Rattle.lines.specs.Program.{line_writer}
use Rattle.chiselbrow_run.specs.declared.turn.Turn.{Turn}

-- The lines of the records, and where the run stops the line for what is left.
abbrev pub turn_text : Bool → List ℕ → List ℕ
turn_text ended s = turn_by line_writer ended s

-- How many bytes were answered and how many are left, how many were written, and whether the run goes on.
unfoldable pub turn_of : Bool → List ℕ → Turn
turn_of ended s =
    record {
      read = length s - length (rest_of s);
      left = length (rest_of s);
      written = length (turn_text ended s);
      more = not (stops ended s);
    }

-- A turn on a buffer that holds s, and an output.
pub record Turned (ended : Bool) (s kept before after : List ℕ) (r : Turn) : Type 0 where
  pub is : r ≡ turn_of ended s
  pub output : after ≡ at_front (turn_text ended s) before
  pub rest_in_front : kept ≡ at_front (rest_of s) s
  -- what a caller needs to go on
  pub left_within : r.left ≤ length kept
  pub written_within : r.written ≤ length after
  pub left_short : r.more ≡ true → r.left < 64
