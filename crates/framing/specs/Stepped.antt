-- What a step of a run leaves, a turn with its write.
use Rattle.std.specs.Prelude.{ℕ, ◌-◌, ◌≤◌, ◌<◌, ◌≡◌, Bool, true, false, not, List, ◌++◌, eqb, length, take}
use Rattle.framing.specs.Framing.{rest_of}
use Rattle.framing.specs.Run.{stops}

-- A step on bytes s that did not fail goes on unless the run stops at them; what is left of s is at the front of the
-- buffer, and all before it was answered.
pub record Stepped (ended : Bool) (s after : List ℕ) (failed more : Bool) (left read : ℕ) : Type 0 where
  pub left_within : left ≤ length after
  pub goes_on : failed ≡ false → more ≡ not (stops ended s)
  pub left_is : failed ≡ false → left ≡ length (rest_of s)
  pub read_is : failed ≡ false → read ≡ length s - length (rest_of s)
  pub rest_in_front : failed ≡ false → take left after ≡ rest_of s
  -- so that the next read has room
  pub left_short : more ≡ true → left < 64

-- What holds of a step that reads: on what was kept, and after it what the read gave, which the system decides. A read
-- that gives nothing is the end of the input.
pub record AfterRead (Holds : Bool → List ℕ → Type 0) (kept : List ℕ) : Type 0 where
  pub got : List ℕ
  pub holds : Holds (eqb (length got) 0) (kept ++ got)
