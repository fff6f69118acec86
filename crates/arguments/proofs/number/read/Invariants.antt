use Rattle.std.proofs.Common.{length, ◌≤◌, ◌<◌}
use Rattle.arguments.specs.Number.{most}
use Rattle.arguments.proofs.Digits.{Reading}
use Rattle.arguments.proofs.number.read.Given as goal

abbrev pub invariant-loop-byte : goal.invariant-loop-byte
invariant-loop-byte l = (0 < length l.text) × (l.n ≤ most) × Reading l.text l.n l.byte-index
