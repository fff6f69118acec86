-- How far the last number is ahead, place by place.
use Rattle.std.proofs.Common.{arith}
use Rattle.arguments.proofs.Places.{ahead_next, ahead_stops}
use Rattle.arguments.proofs.ranges.count.Goals as goal

pub returns-then-above-first_digit : goal.returns-then-above-first_digit
returns-then-above-first_digit c =
    let loop = c.loop-place in
    ahead_stops _ _ c.requires.0 c.requires.1 loop.ahead loop.place loop.invariant c.loop-place-test.true (omega arith)

pub loop-place-preserved : goal.loop-place-preserved
loop-place-preserved c =
    let loop = c.loop-place in
    ahead_next _ _ c.requires.0 c.requires.1 loop.ahead loop.place loop.invariant c.loop-place-test.true
    c.min-ahead.result (omega arith) (omega arith)
