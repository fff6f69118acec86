-- What a step of the run leaves.
use Rattle.std.specs.Prelude.{ℕ, Bool, true, false, List, Result, Ok, Err}
use Rattle.framing.specs.Stepped as step
use Rattle.framing.specs.Stepped.{AfterRead}
use Rattle.process.specs.declared.streams.Failure.{Failure}
use Rattle.chiselbrow_run.specs.declared.Step.{Step}

-- One that failed goes no further, and tells nothing of the bytes.
abbrev pub Stepped : Bool → List ℕ → List ℕ → Result Step Failure → Type 0
Stepped ended s after (Ok r) = step.Stepped ended s after false r.more r.left r.read
Stepped ended s after (Err _) = step.Stepped ended s after true false 0 0

-- A step that reads.
abbrev pub ReadAndAnswered : List ℕ → List ℕ → Result Step Failure → Type 0
ReadAndAnswered kept after r = AfterRead (λ ended s. Stepped ended s after r) kept
