use Rattle.std.proofs.Common.{◌-◌, length}
use Rattle.renew_run.proofs.telling.tell_refused.Given as goal

abbrev pub decreases-loop-n : goal.decreases-loop-n
decreases-loop-n l = length l.renewed - l.at
