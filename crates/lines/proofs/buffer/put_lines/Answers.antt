use native.Mathlib.Omega.{arith}
use Rattle.lines.proofs.Turn.{record_within, less_left, putting_more, lines_put}
use Rattle.lines.proofs.buffer.put_lines.Goals as goal

pub overflow_add-end : goal.overflow_add-end
overflow_add-end c = omega (arith, record_within c.loop-n.invariant c.in-Some.is c.next_with_room.ensures)

pub slice_bounds-put_line-end : goal.slice_bounds-put_line-end
slice_bounds-put_line-end c = search record_within

pub loop-n-smaller : goal.loop-n-smaller
loop-n-smaller c = search less_left

pub loop-n-preserved : goal.loop-n-preserved
loop-n-preserved c = search putting_more

pub returns : goal.returns
returns c = search lines_put
