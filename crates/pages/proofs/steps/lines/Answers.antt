use mathlib.Core.Path.{ap, ◌∙◌}
use native.Mathlib.Omega.{arith}
use Rattle.std.specs.Prelude.{Ok, Err}
use Rattle.reckoning.proofs.ToldCases.{number_not_0}
use Rattle.text.proofs.Writing.{wrote_as, wrote_no_texts, wrote_one_more, wrote_all_texts}
use Rattle.pages.specs.StepLines.{step_line, step_at, step_lines}
use Rattle.pages.proofs.steps.lines.Goals as goal

pub loop-i-init : goal.loop-i-init
loop-i-init g c = (omega arith, λ moments told. wrote_no_texts _ (omega arith))

pub loop-i-preserved : goal.loop-i-preserved
loop-i-preserved g c =
    let word = c.args.word.now in (
      omega arith,
      λ moments told.
          wrote_one_more (step_at word moments) _ (c.loop-i.invariant.1 moments told)
          (wrote_as (ap (step_line word c.loop-i.i) (told _ (Ok _) c.in_ok-moment.ensures)) c.line-at.ensures.0),
    )

pub returns-in_err-moment : goal.returns-in_err-moment
returns-in_err-moment g c = λ moments told answered.
    let is = ap (λ m. m.refusal) (told _ (Err _) c.in_err-moment.ensures) in
    absurd (number_not_0 _ (is ∙ answered _ (omega arith)))

pub returns : goal.returns
unfolding step_lines
returns g c = λ moments told answered.
    (wrote_all_texts (step_at c.args.word.now moments) _ _ (omega arith) (c.loop-i.invariant.1 moments told), omega arith)
