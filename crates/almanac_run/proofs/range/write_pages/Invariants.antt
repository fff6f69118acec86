use Rattle.std.proofs.Common.{◌≡◌, ◌≤◌, length}
use Rattle.almanac_run.proofs.Filling.{Going}
use Rattle.almanac_run.proofs.range.write_pages.Given as goal

abbrev pub invariant-loop-left : goal.invariant-loop-left
invariant-loop-left l =
    (length l.out ≡ length l.fn.out) × (8192 ≤ length l.out) × Going l.fn.range.first l.fn.range.count l.next l.left

abbrev pub decreases-loop-left : goal.decreases-loop-left
decreases-loop-left l = l.left
