use mathlib.Core.Path.{refl, ◌∙◌}
use Rattle.std.proofs.lemmas.Result.{err_from_is_err_and}
use Rattle.reckoning.specs.Requests.{sheet_in, no_sheet, sheet_of}
use Rattle.reckoning.proofs.AnswerUnless.{refused, answered}
use Rattle.reckoning.proofs.ToldCases.{number_not_0}
use Rattle.reckoning.proofs.sheet.Goals as goal

pub returns-in_err-asked : goal.returns-in_err-asked
unfolding sheet_of
returns-in_err-asked c =
    let p = err_from_is_err_and c.from_residual.result c.from_residual.ensures.1 in
    rw (p.1, p.2) (refused sheet_in no_sheet _ _ c.in_err-asked.ensures (number_not_0 _))

pub returns : goal.returns
unfolding sheet_of
returns c = c.sheet.ensures ∙ answered sheet_in no_sheet _ _ c.in_ok-asked.ensures refl
