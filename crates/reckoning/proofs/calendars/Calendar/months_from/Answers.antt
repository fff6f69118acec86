use mathlib.Core.Path.{◌≡◌, ap, ◌∙◌}
use Prim.Native.Nat.{◌+◌, ◌%◌}
use native.Mathlib.Omega.{arith}
use Rattle.calendar.specs.Systems.{register_day}
use Rattle.calendar.specs.Month.{new_moon_remainder, number_of}
use Rattle.calendar.specs.ClosedForms.{held_by}
use Rattle.reckoning.specs.MonthSpans.{month_span, last_qi}
use Rattle.reckoning.specs.Requests.{as_register_day, no_heads, no_numbers, no_qi, months_from}
use Rattle.reckoning.specs.Filled.{filled}
use Rattle.reckoning.proofs.FilledLaws.{filled_none, filled_more}
use Rattle.reckoning.proofs.calendars.Calendar.months_from.Goals as goal

pub loop-i-init : goal.loop-i-init
loop-i-init c =
    let start : c.args.first.month ≡ c.args.first.month + 0 = omega arith in (
      c.requires.0 ∙ ap (month_span c.args.self.c) start,
      filled_none _ _,
      filled_none _ _,
      filled_none _ _,
      filled_none _ _,
      filled_none _ _,
    )

pub loop-i-preserved : goal.loop-i-preserved
loop-i-preserved c =
    let constants = c.args.self.c in
    let inv = c.loop-i.invariant in
    let here = ap (λ x. x.month) inv.0 in
    let head = ap (λ x. as_register_day (register_day constants x.head)) inv.0 in
    let last = c.last_qi-last.ensures ∙ ap (last_qi constants) here in
    let next : c.loop-i.m.month + 1 ≡ c.args.first.month + (c.loop-i.i + 1) = omega arith in (
      c.month_after-m.ensures ∙ ap (month_span constants) next,
      filled_more _ _ _ _ _ inv.1 (c.register_day-head.ensures ∙ head),
      filled_more _ _ _ _ _ inv.2 (c.number_of_qi.ensures ∙ ap (λ x. number_of (x.qi % 12)) last),
      filled_more _ _ _ _ _ inv.3 (ap (λ x. x.leap) last),
      filled_more _ _ _ _ _ inv.4 (c.new_moon_remainder.ensures ∙ ap (new_moon_remainder constants) here),
      filled_more _ _ _ _ _ inv.5 (c.held_by.ensures ∙ ap (λ x. held_by x.leap x.qi) last),
    )

pub returns : goal.returns
unfolding months_from
returns c =
    let count = c.args.count in
    let loop = c.loop-i in
    let inv = loop.invariant in
    let e : loop.i ≡ count = omega arith in
    let heads = filled_more _ _ _ _ _ (inv.1 ∙ ap (filled _ no_heads) e) c.requires.1 in
    let numbers = inv.2 ∙ ap (filled _ no_numbers) e in
    let leaps = inv.3 ∙ ap (filled _ no_numbers) e in
    let remainders = inv.4 ∙ ap (filled _ no_numbers) e in
    let held = inv.5 ∙ ap (filled _ no_qi) e in
    λ j. record {
      refusal = 0;
      count = count;
      heads = heads j;
      numbers = numbers j;
      leaps = leaps j;
      remainders = remainders j;
      held = held j;
    }
