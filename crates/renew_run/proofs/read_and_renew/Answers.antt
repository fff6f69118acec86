-- The bytes that were read stand after those that were kept.
use Rattle.std.proofs.Common.{rules}
use Rattle.renew_run.proofs.Stepping.{read_step}
use Rattle.renew_run.proofs.read_and_renew.Goals as goal

pub returns : goal.returns
returns c =
    read_step _ _ c.args.kept c.in_ok-count.count c.args.buffer.now c.read.new.buffer _ _ c.requires.0 c.requires.1 (search rules)
    c.renew_and_write.ensures
