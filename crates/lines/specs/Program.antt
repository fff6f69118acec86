-- What the program writes, from the input's bytes to the output's bytes: paper 01, "The program".
use Rattle.std.specs.Prelude.{ℕ, ◌+◌, ◌-◌, ◌≤◌, ◌≡◌, cond, List, [], ◌∷◌, ◌++◌, leb, eqb, length, Option, None}
use Rattle.reckoning.specs.RefusalNumbers.{SHORT}
use Rattle.framing.specs.Framing.{framing, next_of}
use Rattle.framing.specs.Buffer.{at_front}
use Rattle.framing.specs.Run.{Writer, text_of}
use Rattle.lines.specs.declared.buffer.Progress.{Progress}
use Rattle.text.specs.Piece.{refused_line}
use Rattle.lines.specs.Line.{line_of}

-- A line for each record;
abbrev pub lines_of : List (List ℕ) → List ℕ
lines_of records = text_of line_of records

-- and `refused 1` where a byte is left.
abbrev pub ending_of : List ℕ → List ℕ
ending_of rest = cond (eqb (length rest) 0) [] (refused_line SHORT)

-- What the program writes on input s.
abbrev pub output_of : List ℕ → List ℕ
output_of s = lines_of (framing s).records ++ ending_of (framing s).rest

-- So does a run, and it writes nothing of what it reads after that.
abbrev pub line_writer : Writer
line_writer = record { of = line_of; ending = ending_of; after = λ bytes. [] }

-- The first records of a buffer: how many bytes they have, and their lines.
pub record Portion : Type 0 where
  pub read : ℕ
  pub text : List ℕ

abbrev pub no_portion : Portion
no_portion = record { read = 0; text = [] }

-- So many bytes with their lines, and then others.
abbrev pub portion_then : ℕ → List ℕ → Portion → Portion
portion_then n text others = record { read = n + others.read; text = text ++ others.text }

-- The records that an output takes: each while 64 bytes are left, in which every line has room.
unfoldable pub portion : List (List ℕ) → ℕ → Portion
portion [] size = no_portion
portion (r ∷ records) size =
    cond (leb 64 size) (portion_then (length r) (line_of r) (portion records (size - length (line_of r)))) no_portion

abbrev pub portion_of : List ℕ → ℕ → Portion
portion_of s size = portion (framing s).records size

-- The length of the record at a place, where a whole one is there and 64 bytes of output are.
abbrev pub next_with_room : List ℕ → ℕ → ℕ → Option ℕ
next_with_room s at size = cond (leb 64 size) (next_of s at) None

-- The lines of a buffer's records put: how far it was read and how much was written,
abbrev pub progress_of : Portion → Progress
progress_of p = record { read = p.read; written = length p.text }

-- and the output, with the lines at its front and the rest left.
pub record LinesPut (s before after : List ℕ) (r : Progress) : Type 0 where
  pub progress : r ≡ progress_of (portion_of s (length before))
  pub output : after ≡ at_front (portion_of s (length before)).text before
  -- what a caller needs to go on
  pub read_within : r.read ≤ length s
  pub written_within : r.written ≤ length after
  pub same_length : length after ≡ length before
