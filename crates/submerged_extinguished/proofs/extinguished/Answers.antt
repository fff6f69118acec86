use mathlib.Core.Path.{refl}
use Rattle.std.proofs.lemmas.Result.{err_from_is_err_and}
use Rattle.reckoning.proofs.ToldCases.{number_not_0}
use Rattle.submerged_extinguished.proofs.ExtinguishedEnds.{promised, returns_refusal, returns_lacking, returns_answer, index_there}
use Rattle.submerged_extinguished.proofs.extinguished.Goals as goal

pub returns-in_err-days : goal.returns-in_err-days
returns-in_err-days c =
    let p = err_from_is_err_and c.from_residual.result c.from_residual.ensures.1 in
    rw (p.1, p.2) (promised _ _ _ (returns_refusal _ _ _ c.in_err-days.ensures (number_not_0 _) refl))

pub returns-then-outside : goal.returns-then-outside
returns-then-outside c =
    promised _ _ _ (returns_lacking _ _ _ c.in_ok-days.ensures refl c.outside.ensures c.if-outside.true refl)

pub bounds-days-place : goal.bounds-days-place
bounds-days-place c = index_there _ _ _ c.in_ok-days.ensures c.outside.ensures c.if-outside.false

pub returns : goal.returns
returns c =
    promised _ _ _ (returns_answer _ _ _ c.in_ok-days.ensures refl c.outside.ensures c.if-outside.false refl)
