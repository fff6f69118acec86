-- What a step of the run leaves.
use Rattle.std.specs.Prelude.{◌≡◌, ℕ, Bool, true, false, List, Result, Ok, Err}
use Rattle.framing.specs.Framing.{framing}
use Rattle.framing.specs.Stepped as step
use Rattle.framing.specs.Stepped.{AfterRead}
use Rattle.process.specs.declared.streams.Failure.{Failure}
use Rattle.renewal.specs.Renewal.{any_refused}
use Rattle.renew_run.specs.declared.Step.{Step}

pub record Went (ended : Bool) (s after : List ℕ) (r : Step) : Type 0 where
  pub leaves : step.Stepped ended s after false r.more r.left r.read
  pub ended_is : r.ended ≡ ended
  pub refused_is : r.refused ≡ any_refused (framing s).records

-- One that failed goes no further, and tells nothing of the bytes.
abbrev pub Stepped : Bool → List ℕ → List ℕ → Result Step Failure → Type 0
Stepped ended s after (Ok r) = Went ended s after r
Stepped ended s after (Err _) = step.Stepped ended s after true false 0 0

-- A step that reads.
abbrev pub ReadAndRenewed : List ℕ → List ℕ → Result Step Failure → Type 0
ReadAndRenewed kept after r = AfterRead (λ ended s. Stepped ended s after r) kept
