use native.Mathlib.Omega.{arith}
use Rattle.renewal.proofs.Renewing.{record_within, less_left, renewing_more, all_renewed, renewal_is}
use Rattle.renewal.proofs.renew.Goals as goal

pub overflow_add-end : goal.overflow_add-end
overflow_add-end c = omega (arith, record_within c.loop-n.invariant c.in-Some.is c.next.ensures)

pub slice_bounds-renew-end : goal.slice_bounds-renew-end
slice_bounds-renew-end c = search record_within

pub loop-n-smaller : goal.loop-n-smaller
loop-n-smaller c = search less_left

pub loop-n-preserved : goal.loop-n-preserved
loop-n-preserved c = search renewing_more

pub returns : goal.returns
returns c = record { value = search renewal_is; buffer_after = search all_renewed }
