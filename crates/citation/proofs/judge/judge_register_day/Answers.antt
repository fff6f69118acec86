use mathlib.Core.Path.{refl, ap, ◌∙◌}
use native.Mathlib.Omega.{arith}
use Rattle.std.proofs.lemmas.Result.{err_from_is_err_and}
use Rattle.reckoning.proofs.AnswersFit.{date_fits}
use Rattle.reckoning.proofs.ToldCases.{number_not_0}
use Rattle.citation.specs.Store.{refuse_telling}
use Rattle.citation.proofs.JudgementCases.{date_refused, date_accepted}
use Rattle.citation.proofs.NothingTold.{nothing_told_of, date_not_leap}
use Rattle.citation.proofs.judge.judge_register_day.Goals as goal

pub returns-in_err-d : goal.returns-in_err-d
returns-in_err-d c =
    let p = err_from_is_err_and c.from_residual.result c.from_residual.ensures.1 in
    let e = c.in_err-d.ensures in
    let nothing = nothing_told_of _ (date_not_leap _ _ e) in
    rw (p.1, p.2) (ap (refuse_telling _) nothing ∙ date_refused _ _ _ e (number_not_0 _))

pub overflow_cast-cited : goal.overflow_cast-cited
overflow_cast-cited c =
    let small = date_fits _ _ c.in_ok-d.ensures refl in
    omega arith

pub returns : goal.returns
returns c = c.accept.ensures ∙ date_accepted _ _ _ c.in_ok-d.ensures refl
