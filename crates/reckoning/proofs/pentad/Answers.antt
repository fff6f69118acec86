use mathlib.Core.Path.{refl}
use Rattle.std.proofs.lemmas.Result.{err_from_is_err_and}
use Rattle.reckoning.specs.Divisions.{pentads}
use Rattle.reckoning.proofs.StepLaws.{pentads_sound, asked_fits, refuses_step, answers_accepted_step}
use Rattle.reckoning.proofs.pentad.Goals as goal

pub returns-in_err-asked : goal.returns-in_err-asked
returns-in_err-asked c =
    let p = err_from_is_err_and c.from_residual.result c.from_residual.ensures.1 in
    rw (p.1, p.2) (refuses_step pentads _ _ _ _ c.in_err-asked.ensures)

pub step-requires : goal.step-requires
step-requires c = asked_fits pentads pentads_sound _ _ _ c.in_ok-asked.ensures refl

pub returns : goal.returns
returns c = answers_accepted_step pentads _ _ _ c.in_ok-asked.asked c.in_ok-asked.ensures c.step.ensures
