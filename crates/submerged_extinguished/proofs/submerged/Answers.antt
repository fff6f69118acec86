use mathlib.Core.Path.{refl}
use Rattle.std.proofs.lemmas.Result.{err_from_is_err_and}
use Rattle.reckoning.proofs.ToldCases.{number_not_0}
use Rattle.submerged_extinguished.proofs.SubmergedEnds.{promised, no_rule, returns_refusal, returns_distance, qi_below}
use Rattle.submerged_extinguished.proofs.submerged.Goals as goal

pub returns-in_err-ruled : goal.returns-in_err-ruled
returns-in_err-ruled c =
    let p = err_from_is_err_and c.from_residual.result c.from_residual.ensures.1 in
    rw (p.1, p.2, c.in_err-ruled.ensures.0) (promised _ _ _ (no_rule _ _ _ c.in_err-ruled.ensures.1))

pub returns-in_err-qi : goal.returns-in_err-qi
returns-in_err-qi c =
    let p = err_from_is_err_and c.from_residual-in_err-qi.result c.from_residual-in_err-qi.ensures.1 in
    let refused = returns_refusal _ _ _ c.in_err-qi.ensures c.in_ok-ruled.ensures.1 (number_not_0 _) refl in
    rw (p.1, p.2) (promised _ _ _ refused)

pub submerged-requires : goal.submerged-requires
submerged-requires c =
    rw c.in_ok-ruled.ensures.0 (qi_below _ _ _ c.in_ok-qi.ensures refl)

pub returns : goal.returns
returns c =
    let rule = c.in_ok-ruled.ensures in
    promised _ _ _ (returns_distance _ _ _ c.in_ok-qi.ensures rule.1 refl (rw rule.0 at c.submerged.ensures))
