-- A record that stands at a place ends within the bytes.
use Rattle.std.proofs.Common.{arith}
use Rattle.framing.proofs.Framed.{next_within, less_ahead}
use Rattle.renew_run.proofs.telling.tell_refused.Goals as goal

pub overflow_add-end : goal.overflow_add-end
overflow_add-end c = omega (arith, next_within _ _ c.in-Some.is c.next.ensures)

pub slice_bounds-left_with-end : goal.slice_bounds-left_with-end
slice_bounds-left_with-end c = search next_within

pub loop-n-smaller : goal.loop-n-smaller
loop-n-smaller c = search less_ahead

pub loop-n-smaller-in-Some-left_with : goal.loop-n-smaller-in-Some-left_with
loop-n-smaller-in-Some-left_with c = search less_ahead
