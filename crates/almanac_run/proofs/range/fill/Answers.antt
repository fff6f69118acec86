-- One page more.
use Rattle.std.proofs.Common.{arith}
use Rattle.almanac_run.proofs.Filling.{filling_starts, filling_more}
use Rattle.almanac_run.proofs.range.fill.Goals as goal

pub loop-pages-init : goal.loop-pages-init
loop-pages-init c = (omega arith, filling_starts _ _ _ (omega arith))

pub loop-pages-preserved : goal.loop-pages-preserved
loop-pages-preserved c =
    (omega arith, filling_more c.loop-pages.invariant.1 c.requested_page-end.ensures (omega arith) (omega arith))
