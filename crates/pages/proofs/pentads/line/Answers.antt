use mathlib.Core.Path.{refl}
use Rattle.std.specs.Prelude.{Ok}
use Rattle.std.proofs.lemmas.Result.{err_from_is_err_and}
use Rattle.reckoning.proofs.ToldCases.{number_not_0}
use Rattle.pages.proofs.Ending.{ends_written}
use Rattle.pages.proofs.PentadText.{pentad_refused, pentad_answered}
use Rattle.pages.proofs.pentads.line.Goals as goal

pub returns-in_err-found : goal.returns-in_err-found
returns-in_err-found c =
    let p = err_from_is_err_and c.from_residual.result c.from_residual.ensures.1 in
    rw (p.1, p.2) (refl, pentad_refused _ _ c.in_err-found.ensures (number_not_0 _))

pub returns : goal.returns
returns c = ends_written _ _ _ _ (Ok _) c.in_force_line.ensures (pentad_answered _ _ c.in_ok-found.ensures refl)
