-- A run over an input that comes in pieces: what is written when the reads give these bytes, one after another, and then
-- the input ends.
use Rattle.std.specs.Prelude.{ℕ, ◌≡◌, Bool, true, false, cond, ◌||◌, List, [], ◌∷◌, ◌++◌}
use Rattle.framing.specs.Framing.{misframed, framing, rest_of}

-- What a run writes:
pub record Writer : Type 0 where
  -- of a record,
  pub of : List ℕ → List ℕ
  -- of what is left where it stops,
  pub ending : List ℕ → List ℕ
  -- and of the bytes that are read after that.
  pub after : List ℕ → List ℕ

-- Of records one after another.
unfoldable pub text_of : (List ℕ → List ℕ) → List (List ℕ) → List ℕ
text_of of [] = []
text_of of (r ∷ records) = of r ++ text_of of records

-- Of a whole input.
abbrev pub whole_by : Writer → List ℕ → List ℕ
whole_by w s = text_of w.of (framing s).records ++ w.ending (framing s).rest

-- The run stops where the input has ended, or at a length field that no record has.
abbrev pub stops : Bool → List ℕ → Bool
stops ended s = ended || misframed (rest_of s)

-- In one turn: of the records, and where the run stops of what is left.
unfoldable pub turn_by : Writer → Bool → List ℕ → List ℕ
turn_by w ended s = text_of w.of (framing s).records ++ cond (stops ended s) (w.ending (rest_of s)) []

-- The bytes of all the reads.
unfoldable pub input_of : List (List ℕ) → List ℕ
input_of [] = []
input_of (got ∷ reads) = got ++ input_of reads

-- Turn after turn: what is left is kept in front of what the next read gives. A read gives some bytes; that it gives none
-- is the end.
unfoldable pub run_by : Writer → List ℕ → List (List ℕ) → List ℕ
run_by w kept [] = turn_by w true kept
run_by w kept (got ∷ reads) =
    turn_by w false (kept ++ got)
    ++ cond (stops false (kept ++ got)) (w.after (input_of reads)) (run_by w (rest_of (kept ++ got)) reads)

-- A length field that no record has ends the records: what follows it is only read after it.
abbrev pub EndsThere : Writer → Type 0
EndsThere w = (r t : List ℕ) → misframed r ≡ true → w.ending (r ++ t) ≡ w.ending r ++ w.after t
