use mathlib.Core.Path.{refl}
use native.Mathlib.Omega.{arith}
use borrow.Author.Rules.{rules}
use Rattle.std.proofs.lemmas.Result.{err_from_is_err_and}
use Rattle.reckoning.specs.Requests.{pentad_of}
use Rattle.reckoning.proofs.ToldCases.{number_not_0}
use Rattle.pages.proofs.Ending.{ends_after}
use Rattle.pages.proofs.YearAsked.{pentads_in_scope, pentad_given}
use Rattle.pages.proofs.PentadText.{pentads_refused, pentads_answered}
use Rattle.pages.proofs.pentads.page.Goals as goal

pub returns-in_err-pentad : goal.returns-in_err-pentad
returns-in_err-pentad c =
    let p = err_from_is_err_and c.from_residual.result c.from_residual.ensures.1 in
    rw (p.1, p.2) (refl, pentads_refused _ _ c.in_err-pentad.ensures (number_not_0 _))

pub returns : goal.returns
returns c =
    let scope = pentads_in_scope c.args.system c.args.year c.in_ok-pentad.ensures refl in
    let lines = c.lines.ensures (pentad_of c.args.system c.args.year) (λ i m is. search rules) (λ i h. pentad_given _ _ scope i h) in
    ends_after _ _ _ _ c.title-at.ensures c.requires (omega arith) lines (pentads_answered _ _ c.in_ok-pentad.ensures refl)
