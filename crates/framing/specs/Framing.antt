-- An input cut into records: paper 01, "The program".
use Rattle.std.specs.Prelude.{ℕ, zero, suc, Bool, cond, not, ◌&&◌, List, [], ◌∷◌, leb, length, take, drop, Option, Some, None}
use Rattle.reckoning.specs.ComputedRefusals.{outside}
use Rattle.citation.specs.Record.{length_field}

-- A length field is there, and no record has that length.
abbrev pub misframed : List ℕ → Bool
misframed s = leb 2 (length s) && outside 4 64 (length_field s)

-- A whole record stands at the front: a length field of 4 to 64, and that many bytes.
abbrev pub framed : List ℕ → Bool
framed s = leb 2 (length s) && (not (outside 4 64 (length_field s)) && leb (length_field s) (length s))

-- An input in order: whole records, and what is left after them.
pub record Framing : Type 0 where
  pub records : List (List ℕ)
  pub rest : List ℕ

abbrev pub no_record : List ℕ → Framing
no_record s = record { records = []; rest = s }

-- A record, and then others.
abbrev pub record_then : List ℕ → Framing → Framing
record_then r others = record { records = r ∷ others.records; rest = others.rest }

-- Cut into at most so many records.
unfoldable pub framing_within : ℕ → List ℕ → Framing
framing_within zero s = no_record s
framing_within (suc most) s =
    cond (framed s) (record_then (take (length_field s) s) (framing_within most (drop (length_field s) s))) (no_record s)

-- A record has four bytes or more, so that there are no more of them than bytes.
abbrev pub framing : List ℕ → Framing
framing s = framing_within (length s) s

-- What is left after the whole records of s.
abbrev pub rest_of : List ℕ → List ℕ
rest_of s = (framing s).rest

-- The length of the record at a place, where a whole one is there.
unfoldable pub next_of : List ℕ → ℕ → Option ℕ
next_of s at = cond (framed (drop at s)) (Some (length_field (drop at s))) None
