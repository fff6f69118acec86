use native.Mathlib.Omega.{arith}
use lib.Seq.{paste-zero}
use Rattle.text.proofs.Writing.{copied_more, wrote_copied}
use Rattle.text.proofs.put.word.Goals as goal

pub loop-i-init : goal.loop-i-init
loop-i-init c = paste-zero c.args.out.now c.args.at c.args.bytes.now

pub loop-i-preserved : goal.loop-i-preserved
loop-i-preserved c = search copied_more

pub returns : goal.returns
returns c =
    (wrote_copied _ _ _ _ c.loop-i.invariant c.requires (omega (arith, c.loop-i-test.false, c.loop-i.auto.i-end)), omega arith)
