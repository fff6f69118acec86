-- How the writing of a page ends.
use Rattle.std.specs.Prelude.{ℕ, ◌+◌, ◌≤◌, ◌≡◌, List, Result, Ok, Err}
use Rattle.reckoning.specs.declared.refusal.Refusal.{Refusal}
use Rattle.reckoning.specs.RefusalNumbers.{number_of}
use Rattle.text.specs.Piece.{refused_line}
use Rattle.text.specs.Wrote.{Wrote}

-- Its text was written at a place, in so many bytes at most; or it is the line of a refusal, and nothing was written.
abbrev pub Ends : List ℕ → ℕ → ℕ → List ℕ → List ℕ → Result ℕ Refusal → Type 0
Ends before at room text after (Ok end) = Wrote before at text after end × (end ≤ at + room)
Ends before at room text after (Err refusal) = (after ≡ before) × (text ≡ refused_line (number_of refusal))
