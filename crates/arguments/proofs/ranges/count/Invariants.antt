use Rattle.arguments.proofs.Places.{Ahead}
use Rattle.arguments.proofs.ranges.count.Given as goal

abbrev pub invariant-loop-place : goal.invariant-loop-place
invariant-loop-place l = Ahead l.first l.last l.ahead l.place
