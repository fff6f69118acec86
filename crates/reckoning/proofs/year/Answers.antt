use mathlib.Core.Path.{refl, ◌∙◌}
use Rattle.std.proofs.lemmas.Result.{err_from_is_err_and}
use Rattle.reckoning.specs.Requests.{year_in, no_year, year_of}
use Rattle.reckoning.proofs.AnswerUnless.{refused, answered}
use Rattle.reckoning.proofs.ToldCases.{number_not_0}
use Rattle.reckoning.proofs.year.Goals as goal

pub returns-in_err-asked : goal.returns-in_err-asked
unfolding year_of
returns-in_err-asked c =
    let p = err_from_is_err_and c.from_residual.result c.from_residual.ensures.1 in
    rw (p.1, p.2) (refused year_in no_year _ _ c.in_err-asked.ensures (number_not_0 _))

pub returns : goal.returns
unfolding year_of
returns c = c.months.ensures ∙ answered year_in no_year _ _ c.in_ok-asked.ensures refl
