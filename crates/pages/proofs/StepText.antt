-- The line of a step from its numbers.
use Prim.Native.Nat.{ℕ, ◌+◌, ◌≤◌}
use mathlib.Core.Path.{◌≡◌, ap}
use mathlib.Core.List.{List}
use native.Mathlib.Omega.{arith}
use lib.ListN.{length}
use Rattle.reckoning.specs.Answers.{MomentAnswer}
use Rattle.text.specs.Piece.{line}
use Rattle.text.specs.Wrote.{Wrote}
use Rattle.text.specs.Put.{Put}
use Rattle.text.proofs.Writing.{wrote_as}
use Rattle.text.proofs.Putting.{put_wrote}
use Rattle.pages.specs.StepLines.{moment_numbers, step_line}

pub wrote_step : {b a numbers : List ℕ} {at e room : ℕ} (word : List ℕ) (i : ℕ) (m : MomentAnswer) → numbers ≡ moment_numbers i m
    → Put b at room (line word numbers) a e
    → room ≤ 62
    → at + 62 ≤ length b
    → Wrote b at (step_line word i m) a e × (e ≤ at + 62)
wrote_step word i m told put short there =
    (wrote_as (ap (line word) told) (put_wrote put (omega arith)), omega (arith, put.near))
