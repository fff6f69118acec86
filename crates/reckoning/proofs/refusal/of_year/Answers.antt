use mathlib.Core.Path.{sym, ◌∙◌}
use Rattle.std.proofs.lemmas.Result.{err_from_is_err_and}
use Rattle.calendar.specs.Systems.{last_system}
use Rattle.reckoning.proofs.RefusalCases.{refused_system, refused_year, not_refused, outside_of, numbered}
use Rattle.reckoning.proofs.refusal.of_year.Goals as goal

pub returns-in_err-try_from : goal.returns-in_err-try_from
returns-in_err-try_from c =
    let p = err_from_is_err_and c.from_residual.result c.from_residual.ensures.1 in
    rw (p.1, p.2) (refused_system _ c.args.year (outside_of 1 last_system _ c.in_err-try_from.ensures.1))

pub returns-then-out_of_years : goal.returns-then-out_of_years
returns-then-out_of_years c =
    refused_year _ _ (numbered _ _ c.in_ok-try_from.ensures) (sym c.out_of_years.ensures ∙ c.if-out_of_years.true)

-- accepted
pub returns : goal.returns
returns c =
    not_refused _ _ (numbered _ _ c.in_ok-try_from.ensures) (sym c.out_of_years.ensures ∙ c.if-out_of_years.false)
