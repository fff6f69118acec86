-- The bytes that were read stand after those that were kept.
use Rattle.std.proofs.Common.{rules}
use Rattle.chiselbrow_run.proofs.Stepping.{read_step}
use Rattle.chiselbrow_run.proofs.read_and_answer.Goals as goal

pub returns : goal.returns
returns c =
    read_step _ _ c.args.kept c.in_ok-count.count c.args.input.now c.read.new.buffer _ _ c.requires.0 c.requires.1.0 (search rules)
    c.write_answer.ensures
