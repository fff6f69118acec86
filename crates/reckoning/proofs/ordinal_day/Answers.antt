use mathlib.Core.Path.{refl}
use Rattle.std.proofs.Common.{rules}
use Rattle.std.proofs.lemmas.Result.{err_from_is_err_and}
use Rattle.calendar.specs.Systems.{constants_of, years_elapsed}
use Rattle.reckoning.proofs.OrdinalRequest.{no_ordinal, head_refused, head_in_scope, head_found, day_answered}
use Rattle.reckoning.proofs.ScopeInRegister.{year_in_register}
use Rattle.reckoning.proofs.ToldCases.{number_not_0}
use Rattle.reckoning.proofs.ordinal_day.Goals as goal

pub returns-in_err-head : goal.returns-in_err-head
returns-in_err-head c =
    let p = err_from_is_err_and c.from_residual.result c.from_residual.ensures.1 in
    rw (p.1, p.2) (head_refused _ _ c.args.ordinal.0 c.in_err-head.ensures (number_not_0 _))

pub returns-then-ordinal-eq0 : goal.returns-then-ordinal-eq0
returns-then-ordinal-eq0 c =
    let args = c.args in
    day_answered args.system args.year args.ordinal.0 c.in_ok-head.ensures refl
    (no_ordinal (constants_of args.system) (years_elapsed (constants_of args.system) args.year) c.if-ordinal-eq0.true)

pub by_system-requires : goal.by_system-requires
by_system-requires c =
    let args = c.args in
    let s = head_in_scope _ _ args.ordinal.0 c.in_ok-head.ensures refl in
    let year = year_in_register args.system args.year s.year_inside in
    let head = head_found _ _ args.ordinal.0 c.in_ok-head.ensures refl in
    search rules

pub returns : goal.returns
returns c =
    let args = c.args in
    let s = head_in_scope _ _ args.ordinal.0 c.in_ok-head.ensures refl in
    let p = c.by_system.ensures.answered s.system_inside in
    day_answered args.system args.year args.ordinal.0 c.in_ok-head.ensures refl (search rules)
