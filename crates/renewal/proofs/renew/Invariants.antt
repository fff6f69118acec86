use Prim.Native.Nat.{◌-◌}
use lib.ListN.{length}
use Rattle.renewal.proofs.Renewing.{Renewing}
use Rattle.renewal.proofs.renew.Given as goal

abbrev pub invariant-loop-n : goal.invariant-loop-n
invariant-loop-n l = Renewing l.initial.buffer l.buffer l.at l.refused

abbrev pub decreases-loop-n : goal.decreases-loop-n
decreases-loop-n l = length l.buffer - l.at
