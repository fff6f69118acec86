use mathlib.Core.Path.{refl}
use Rattle.std.proofs.lemmas.Result.{err_from_is_err_and}
use Rattle.calendar.specs.Systems.{last_system}
use Rattle.reckoning.proofs.RefusalCases.{outside_of, numbered}
use Rattle.reckoning.proofs.ToldCases.{number_not_0}
use Rattle.comparison.proofs.Entries.{promised}
use Rattle.comparison.proofs.Refusals.{wrong_first, wrong_second, wrong_year_of_first, wrong_year_of_second, both_right}
use Rattle.comparison.proofs.compare.Goals as goal

pub returns-in_err-try_from : goal.returns-in_err-try_from
returns-in_err-try_from c =
    let p = err_from_is_err_and c.from_residual.result c.from_residual.ensures.1 in
    let wrong = outside_of 1 last_system _ c.in_err-try_from.ensures.1 in
    rw (p.1, p.2) (promised _ _ _ (wrong_first _ _ _ wrong refl))

pub returns-in_err-try_from-2 : goal.returns-in_err-try_from-2
returns-in_err-try_from-2 c =
    let p = err_from_is_err_and c.from_residual-in_err-try_from-2.result c.from_residual-in_err-try_from-2.ensures.1 in
    let one = numbered _ _ c.in_ok-try_from.ensures in
    let wrong = outside_of 1 last_system _ c.in_err-try_from-2.ensures.1 in
    rw (p.1, p.2) (promised _ _ _ (wrong_second _ _ _ one wrong refl))

pub returns-in_err-of_first : goal.returns-in_err-of_first
returns-in_err-of_first c =
    let p = err_from_is_err_and c.from_residual-in_err-of_first.result c.from_residual-in_err-of_first.ensures.1 in
    let one = numbered _ _ c.in_ok-try_from.ensures in
    let other = numbered _ _ c.in_ok-try_from-2.ensures in
    rw (p.1, p.2)
    (promised _ _ _ (wrong_year_of_first _ _ _ one other c.in_err-of_first.ensures (number_not_0 _) refl))

pub returns-in_err-of_second : goal.returns-in_err-of_second
returns-in_err-of_second c =
    let p = err_from_is_err_and c.from_residual-in_err-of_second.result c.from_residual-in_err-of_second.ensures.1 in
    let one = numbered _ _ c.in_ok-try_from.ensures in
    let other = numbered _ _ c.in_ok-try_from-2.ensures in
    rw (p.1, p.2)
    (promised _ _ _
    (wrong_year_of_second _ _ _ one other c.in_ok-of_first.ensures c.in_err-of_second.ensures (number_not_0 _) refl))

pub returns : goal.returns
returns c =
    let one = numbered _ _ c.in_ok-try_from.ensures in
    let other = numbered _ _ c.in_ok-try_from-2.ensures in
    promised _ _ _ (both_right _ _ _ one other c.in_ok-of_first.ensures c.in_ok-of_second.ensures refl c.list.ensures)
