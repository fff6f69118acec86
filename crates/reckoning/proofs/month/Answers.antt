use mathlib.Core.Path.{◌≡◌, refl, ap, ◌∙◌}
use native.Mathlib.Omega.{arith}
use Rattle.std.proofs.Common.{rules}
use Rattle.calendar.specs.Systems.{constants_of, years_elapsed}
use Rattle.calendar.specs.LeapMonth.{leap_number}
use Rattle.reckoning.specs.RefusalNumbers.{LEAP, number_of}
use Rattle.reckoning.specs.Requests.{no_month_telling}
use Rattle.reckoning.specs.Told.{told_month}
use Rattle.reckoning.proofs.MonthRequest.{silent_in_scope, told_leap, leap_told, month_of_found}
use Rattle.reckoning.proofs.ScopeInRegister.{year_in_register}
use Rattle.reckoning.proofs.ToldCases.{leap_tells}
use Rattle.reckoning.proofs.month.Goals as goal

pub by_system-requires : goal.by_system-requires
by_system-requires c =
    let args = c.args in
    let leap = ap number_of c.in-Err-NotLeap.field-0-is in
    let s = silent_in_scope _ _ _ _ c.in-Err-NotLeap.ensures leap in
    let year = year_in_register args.system args.year s.year_inside in
    search rules

pub returns-in-Err-NotLeap : goal.returns-in-Err-NotLeap
returns-in-Err-NotLeap c =
    let args = c.args in
    let k = constants_of args.system in
    let leap = ap number_of c.in-Err-NotLeap.field-0-is in
    let s = silent_in_scope _ _ _ _ c.in-Err-NotLeap.ensures leap in
    let p = c.by_system.ensures.answered s.system_inside in
    let here : told_month c.by_system.result ≡ no_month_telling LEAP (leap_number k (years_elapsed k args.year)) =
    search (rules, told_leap)
    in
    here ∙ leap_told args.system args.year args.number args.leap c.in-Err-NotLeap.ensures leap refl

pub returns-in-Err : goal.returns-in-Err
returns-in-Err c = month_of_found _ _ _ _ c.in-Err.ensures (λ e. leap_tells c.in-Err.refusal (λ m f. search rules) e)

pub returns-in-Ok : goal.returns-in-Ok
returns-in-Ok c = month_of_found _ _ _ _ c.in-Ok.ensures (λ e. omega (arith, e))
