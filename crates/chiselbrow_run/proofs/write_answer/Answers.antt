-- What is left by a turn whose lines were written.
use Rattle.chiselbrow_run.proofs.Stepping.{written_step}
use Rattle.chiselbrow_run.proofs.write_answer.Goals as goal

pub returns : goal.returns
returns c = written_step c.answer-t.ensures
