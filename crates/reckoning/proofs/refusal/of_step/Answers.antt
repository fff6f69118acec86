use mathlib.Core.Path.{sym, ◌∙◌}
use borrow.Author.Tests.{lt-ltb, le-ltb}
use Rattle.std.proofs.lemmas.Result.{err_from_is_err_and}
use Rattle.reckoning.proofs.ToldCases.{number_not_0}
use Rattle.reckoning.proofs.RefusalCases.{step_unseen, step_seen}
use Rattle.reckoning.proofs.refusal.of_step.Goals as goal

pub returns-in_err-of_year : goal.returns-in_err-of_year
returns-in_err-of_year c =
    let p = err_from_is_err_and c.from_residual.result c.from_residual.ensures.1 in
    let e = c.in_err-of_year.ensures in
    rw (p.1, p.2) (e ∙ step_unseen _ _ _ _ (λ z. number_not_0 _ (e ∙ z)))

pub returns-then-most-i : goal.returns-then-most-i
returns-then-most-i c =
    rw (lt-ltb _ _ c.if-most-i.true) at (step_seen c.args.most _ _ c.args.i (sym c.in_ok-of_year.ensures))

pub returns : goal.returns
returns c = rw (le-ltb _ _ c.if-most-i.false) at (step_seen c.args.most _ _ c.args.i (sym c.in_ok-of_year.ensures))
