-- Nothing is put where the run goes on.
use Rattle.chiselbrow_run.proofs.Turning.{put_no_end}
use Rattle.chiselbrow_run.proofs.turn.end.Goals as goal

pub returns-then-more : goal.returns-then-more
returns-then-more c = put_no_end _ c.if-more.true
