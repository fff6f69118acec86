use Rattle.std.proofs.Common.{◌≡◌, ◌<◌, length}
use Rattle.chiselbrow_run.proofs.answer_input.Given as goal

abbrev pub invariant-loop : goal.invariant-loop
invariant-loop l =
    (length l.input ≡ length l.fn.input) × (length l.out ≡ length l.fn.out) × (l.kept < 64)
