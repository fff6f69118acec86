-- What is left by a turn whose records were written.
use Rattle.renew_run.proofs.Stepping.{written_step}
use Rattle.renew_run.proofs.renew_and_write.Goals as goal

pub returns : goal.returns
returns c = written_step c.renew-t.ensures c.keep.ensures
