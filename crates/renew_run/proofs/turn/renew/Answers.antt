-- The records lie within the buffer.
use Rattle.renew_run.proofs.Turning.{read_within, turned}
use Rattle.renew_run.proofs.turn.renew.Goals as goal

pub slice_bounds-goes_on-count : goal.slice_bounds-goes_on-count
slice_bounds-goes_on-count c = search read_within

pub slice_bounds-goes_on-start : goal.slice_bounds-goes_on-start
slice_bounds-goes_on-start c = search read_within

pub returns : goal.returns
returns c =
    turned _ _ c.renew-r.ensures.value c.renew-r.ensures.buffer_after c.goes_on-more.ensures c.to_write.ensures
