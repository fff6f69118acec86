use mathlib.Core.Path.{◌≡◌, refl, sym, ap, ◌∙◌}
use Rattle.std.proofs.lemmas.Result.{err_from_is_err_and}
use Rattle.calendar.specs.Systems.{system_number, constants_of}
use Rattle.reckoning.proofs.Picking.{found_by_number, found_by_none}
use Rattle.reckoning.proofs.month_found.Goals as goal

pub returns-in_err-try_from : goal.returns-in_err-try_from
returns-in_err-try_from c =
    let p = err_from_is_err_and c.from_residual.result c.from_residual.ensures.1 in
    rw (p.1, p.2) (found_by_none c.args.system c.args.year c.args.number c.args.leap c.in_err-try_from.ensures.1 refl)

pub of-requires : goal.of-requires
of-requires c =
    let is : c.args.system ≡ 1 = sym c.in_ok-try_from.ensures ∙ ap system_number c.in-Guantian.is in
    c.guantian.ensures ∙ ap constants_of (sym is)

pub returns-in-Guantian : goal.returns-in-Guantian
returns-in-Guantian c =
    let is : c.args.system ≡ 1 = sym c.in_ok-try_from.ensures ∙ ap system_number c.in-Guantian.is in
    found_by_number _ _ _ _ 1 refl is (c.of.ensures ∙ c.guantian.ensures) c.month_of_common_year.ensures

pub of-requires-in-Jiyuan : goal.of-requires-in-Jiyuan
of-requires-in-Jiyuan c =
    let is : c.args.system ≡ 2 = sym c.in_ok-try_from.ensures ∙ ap system_number c.in-Jiyuan.is in
    c.jiyuan.ensures ∙ ap constants_of (sym is)

pub returns-in-Jiyuan : goal.returns-in-Jiyuan
returns-in-Jiyuan c =
    let is : c.args.system ≡ 2 = sym c.in_ok-try_from.ensures ∙ ap system_number c.in-Jiyuan.is in
    found_by_number _ _ _ _ 2 refl is (c.of-in-Jiyuan.ensures ∙ c.jiyuan.ensures) c.month_of_common_year-in-Jiyuan.ensures

pub of-requires-in-Jingchu : goal.of-requires-in-Jingchu
of-requires-in-Jingchu c =
    let is : c.args.system ≡ 3 = sym c.in_ok-try_from.ensures ∙ ap system_number c.in-Jingchu.is in
    c.jingchu.ensures ∙ ap constants_of (sym is)

pub returns-in-Jingchu : goal.returns-in-Jingchu
returns-in-Jingchu c =
    let is : c.args.system ≡ 3 = sym c.in_ok-try_from.ensures ∙ ap system_number c.in-Jingchu.is in
    found_by_number _ _ _ _ 3 refl is (c.of-in-Jingchu.ensures ∙ c.jingchu.ensures) c.month_of_common_year-in-Jingchu.ensures
