use Rattle.std.proofs.Common.{◌≡◌, ◌<◌, length}
use Rattle.process.specs.Exit.{AnsweredOrFailed}
use Rattle.renew_run.proofs.renew_input.Given as goal

abbrev pub invariant-loop : goal.invariant-loop
invariant-loop l = (length l.buffer ≡ length l.fn.buffer) × (l.kept < 64) × AnsweredOrFailed l.status
