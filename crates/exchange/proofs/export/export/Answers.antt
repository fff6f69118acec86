use Rattle.std.proofs.Common.{refl, drop, ◌++◌, ◌<◌, ◌≤◌, ◌≡◌, sym, ap, subst, ◌∙◌, length, arith}
use mathlib.Core.Bool.{not}
use lib.Dec.{T}
use lib.Ieee.{is_nan}
use Rattle.day_fraction.proofs.ComesBack.{fraction_number}
use Rattle.day_fraction.specs.Fraction.{fraction_of}
use Rattle.std.proofs.lemmas.Result.{err_from_is_err_and}
use Rattle.reckoning.specs.declared.refusal.Refusal.TheVariants as Refused
use Rattle.reckoning.proofs.ToldCases.{number_not_0}
use Rattle.exchange.specs.Systems.{parts_in_day}
use Rattle.exchange.specs.Row.{row_of}
use Rattle.exchange.specs.Export.{export_refusal, exported_into}
use Rattle.exchange.proofs.DayParts.{day_given, day_lacking}
use Rattle.exchange.proofs.Exporting.{no_exchange, no_time, no_room, none, refused, written, cut_told}
use Rattle.exchange.proofs.export.export.Goals as goal
use Rattle.exchange.proofs.export.export.Goals.{In_ok-in_day, After-of_fraction}

-- The parts in a day of the system.
given : (c : goal.In_ok-in_day) → (c.in_ok-in_day.in_day ≡ parts_in_day c.args.system) × (0 < c.in_ok-in_day.in_day)
given c = day_given c.args.system c.parts_in_day.ensures c.in_ok-in_day.ensures.ok_part

pub returns-in_err-in_day : goal.returns-in_err-in_day
returns-in_err-in_day c =
    let p = err_from_is_err_and c.from_residual.result c.from_residual.ensures.1 in
    let lacking = day_lacking c.args.system c.parts_in_day.ensures c.in_err-in_day.ensures.ok_part c.in_err-in_day.ensures.value in
    let told = refused _ _ _ _ c.args.output.now _ (no_exchange _ _ _ lacking.0 ∙ sym lacking.1) (number_not_0 _) in
    record { value = rw (p.1, p.2) told.0; output_after = told.1 }

pub returns-then-in_day-parts : goal.returns-then-in_day-parts
returns-then-in_day-parts c =
    let day = given (goal.at.returns-then-in_day-parts c).In_ok-in_day in
    let some : 0 < parts_in_day c.args.system = omega (arith, day) in
    let past : parts_in_day c.args.system ≤ c.args.parts = omega (arith, day) in
    let told = refused _ _ _ _ c.args.output.now _ (no_time _ _ _ some past) (number_not_0 Refused.Time) in
    record { value = told.0; output_after = told.1 }

pub returns-in_default : goal.returns-in_default
returns-in_default c =
    let day = given (goal.at.returns-in_default c).In_ok-in_day in
    let some : 0 < parts_in_day c.args.system = omega (arith, day) in
    let below : c.args.parts < parts_in_day c.args.system = omega (arith, day) in
    let short : length c.args.output.now < 13 = c.in_default.ensures.cases in
    let told = refused _ _ _ _ c.args.output.now _ (no_room _ _ _ some below short) (number_not_0 Refused.Output) in
    record { value = told.0; output_after = told.1 }

pub of_fraction-requires : goal.of_fraction-requires
of_fraction-requires c =
    let day = given (goal.at.of_fraction-requires c).In_ok-in_day in
    subst (λ f. T (not (is_nan f))) (sym c.fraction.ensures) (fraction_number _ (omega (arith, day)) (omega arith) _ (omega arith))

-- Nothing is refused, and the row is written.
done : (c : goal.After-of_fraction) → let before = c.args.output.now in
    (export_refusal c.args.system c.args.parts (length before) ≡ 0)
    × (c.of_fraction.result ++ drop 13 before ≡ exported_into c.args.system c.args.day c.args.parts before)
done c =
    let day = day_given c.args.system c.parts_in_day.ensures c.in_ok-in_day.ensures.ok_part in
    let some : 0 < parts_in_day c.args.system = omega (arith, day) in
    let below : c.args.parts < parts_in_day c.args.system = omega (arith, day) in
    let room : 13 ≤ length c.args.output.now = c.in-Some.ensures.variant.0 refl in
    let accepted = none _ _ _ some below room in
    let fraction = c.fraction.ensures ∙ ap (λ d. fraction_of d c.args.parts) day.0 in
    (accepted, written _ _ _ c.args.output.now accepted (c.of_fraction.ensures ∙ ap (row_of _) fraction))

pub returns : goal.returns
returns c =
    let exported = done (goal.at.returns c).After-of_fraction in
    record { value = cut_told _ _ _ _ exported.0; output_after = exported.1 }
