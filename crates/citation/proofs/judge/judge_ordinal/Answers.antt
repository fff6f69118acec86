use mathlib.Core.Path.{refl, ap, ◌∙◌}
use Rattle.std.proofs.lemmas.Result.{err_from_is_err_and}
use Rattle.reckoning.proofs.ToldCases.{number_not_0}
use Rattle.citation.specs.Store.{refuse_telling}
use Rattle.citation.proofs.JudgementCases.{ordinal_refused, ordinal_accepted}
use Rattle.citation.proofs.NothingTold.{nothing_told_of, ordinal_not_leap}
use Rattle.citation.proofs.judge.judge_ordinal.Goals as goal

pub returns-in_err-d : goal.returns-in_err-d
returns-in_err-d c =
    let p = err_from_is_err_and c.from_residual.result c.from_residual.ensures.1 in
    let e = c.in_err-d.ensures in
    let nothing = nothing_told_of _ (ordinal_not_leap _ _ _ e) in
    rw (p.1, p.2) (ap (refuse_telling _) nothing ∙ ordinal_refused _ _ _ _ e (number_not_0 _))

pub returns : goal.returns
returns c = c.accept.ensures ∙ ordinal_accepted _ _ _ _ c.in_ok-d.ensures refl
