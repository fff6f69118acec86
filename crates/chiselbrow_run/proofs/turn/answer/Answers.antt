-- The turn's parts, put together.
use Rattle.chiselbrow_run.proofs.Turning.{turned}
use Rattle.chiselbrow_run.proofs.turn.answer.Goals as goal

pub returns : goal.returns
returns c =
    turned _ _ _ _ _ c.requires c.put_lines-p.ensures c.goes_on-more.ensures c.end-written.ensures c.keep.ensures
