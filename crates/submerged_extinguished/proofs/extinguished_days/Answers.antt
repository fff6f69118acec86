use mathlib.Core.Path.{refl}
use Rattle.std.proofs.lemmas.Result.{err_from_is_err_and}
use Rattle.reckoning.proofs.ToldCases.{number_not_0}
use Rattle.submerged_extinguished.proofs.DaysAsked.{returns_no_rule, returns_refusal, months_fit, returns_days}
use Rattle.submerged_extinguished.proofs.extinguished_days.Goals as goal

pub returns-in_err-ruled : goal.returns-in_err-ruled
returns-in_err-ruled c =
    let p = err_from_is_err_and c.from_residual.result c.from_residual.ensures.1 in
    rw (p.1, p.2, c.in_err-ruled.ensures.0) (returns_no_rule _ _ c.in_err-ruled.ensures.1)

pub returns-in_err-days : goal.returns-in_err-days
returns-in_err-days c =
    let p = err_from_is_err_and c.from_residual-in_err-days.result c.from_residual-in_err-days.ensures.1 in
    rw (p.1, p.2) (returns_refusal _ _ c.in_err-days.ensures c.in_ok-ruled.ensures.1 (number_not_0 _) refl)

pub of_months-requires : goal.of_months-requires
of_months-requires c =
    rw c.in_ok-ruled.ensures.0 (months_fit _ _ c.in_ok-days.ensures refl c.months_in-count.ensures)

pub returns : goal.returns
returns c =
    let rule = c.in_ok-ruled.ensures in
    returns_days _ _ c.in_ok-days.ensures refl c.months_in-count.ensures rule.1 (rw rule.0 at c.of_months.ensures)
