use Prim.Native.Nat.{ℕ, ◌+◌, ◌*◌, ◌≤◌}
use mathlib.Core.Path.{◌≡◌}
use Rattle.std.specs.Prelude.{Result}
use Rattle.reckoning.specs.declared.data.Moment.{Moment}
use Rattle.reckoning.specs.declared.refusal.Refusal.{Refusal}
use Rattle.reckoning.specs.Answers.{MomentAnswer}
use Rattle.reckoning.specs.Told.{told_moment}
use Rattle.text.specs.Wrote.{Wrote}
use Rattle.text.specs.Piece.{texts_up_to}
use Rattle.pages.specs.StepLines.{step_at}
use Rattle.pages.proofs.steps.lines.Given as goal

abbrev pub invariant-loop-i : goal.invariant-loop-i
invariant-loop-i g l =
    (l.at ≤ l.start + 62 * l.i)
    × ((moments : ℕ → MomentAnswer) → ((i : ℕ) (m : Result Moment Refusal) → goal.F-post g l.moment i m → told_moment m ≡ moments i)
    → Wrote l.initial.out l.start (texts_up_to (step_at l.word moments) l.i) l.out l.at)
