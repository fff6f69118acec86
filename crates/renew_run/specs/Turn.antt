-- One turn of the run: the records in the buffer are renewed where they stand.
use Rattle.std.specs.Prelude.{◌≡◌, ℕ, ◌-◌, ◌≤◌, Bool, not, List, length, take, drop}
use Rattle.framing.specs.Framing.{framing, rest_of}
use Rattle.framing.specs.Run.{stops, turn_by}
use Rattle.renewal.specs.Renewal.{renewer, renewed_of, any_refused}
use Rattle.renew_run.specs.declared.turn.Turn.{Turn}

-- The records renewed, and where the run stops what is left.
abbrev pub turn_text : Bool → List ℕ → List ℕ
turn_text ended s = turn_by renewer ended s

-- How many bytes the records have and how many are to be written, whether the run goes on, and whether a record was
-- refused.
unfoldable pub turn_of : Bool → List ℕ → Turn
turn_of ended s =
    record {
      read = length s - length (rest_of s);
      written = length (turn_text ended s);
      more = not (stops ended s);
      refused = any_refused (framing s).records;
    }

-- A turn on a buffer that holds s.
pub record Turned (ended : Bool) (s after : List ℕ) (r : Turn) : Type 0 where
  pub is : r ≡ turn_of ended s
  pub renewed : after ≡ renewed_of s
  -- what is to be written stands in front
  pub front : take r.written after ≡ turn_text ended s
  -- and what is left after the records
  pub rest_after : drop r.read after ≡ rest_of s
  -- what a caller needs to go on
  pub same_length : length after ≡ length s
  pub read_within : r.read ≤ length s
  pub written_within : r.written ≤ length s
