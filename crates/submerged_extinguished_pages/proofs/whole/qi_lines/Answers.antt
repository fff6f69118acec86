use mathlib.Core.Path.{◌≡◌, subst}
use native.Mathlib.Omega.{arith}
use Rattle.submerged_extinguished.specs.Told.{told_day}
use Rattle.submerged_extinguished.specs.Answers.{submerged_of, answer_on}
use Rattle.text.proofs.Writing.{wrote_no_texts, wrote_one_more, wrote_all_texts}
use Rattle.submerged_extinguished_pages.specs.DistancePages.{qi_line, qi_lines}
use Rattle.submerged_extinguished_pages.proofs.PageText.{each_answered, wrote_asked}
use Rattle.submerged_extinguished_pages.proofs.whole.qi_lines.Goals as goal

pub loop-i-init : goal.loop-i-init
loop-i-init c = (omega arith, wrote_no_texts _ (omega arith))

pub unwrap-answer-requires : goal.unwrap-answer-requires
unwrap-answer-requires c = each_answered c.submerged.result c.requires.1 c.loop-i-test.true c.submerged.ensures.1

pub loop-i-preserved : goal.loop-i-preserved
loop-i-preserved c =
    let got : answer_on c.unwrap-answer.result ≡ submerged_of c.args.system c.args.year c.loop-i.i =
    subst (λ r. told_day r ≡ submerged_of c.args.system c.args.year c.loop-i.i) c.unwrap-answer.ensures c.submerged.ensures.0
    in
    let line = wrote_asked c.args.system c.args.year c.loop-i.i got c.qi_line-at.ensures.0 in
    (omega (arith, c.qi_line-at.ensures.1), wrote_one_more (qi_line c.args.system c.args.year) _ c.loop-i.invariant.1 line)

pub returns : goal.returns
unfolding qi_lines
returns c = (wrote_all_texts (qi_line c.args.system c.args.year) _ _ (omega arith) c.loop-i.invariant.1, omega arith)
