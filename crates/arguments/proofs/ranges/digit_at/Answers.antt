-- A digit's byte lies between those of 0 and 9.
use Rattle.std.proofs.Common.{arith, sym}
use Rattle.arguments.proofs.Places.{digit_byte, the_digit}
use Rattle.arguments.proofs.ranges.digit_at.Goals as goal

pub overflow_sub-result-3 : goal.overflow_sub-result-3
overflow_sub-result-3 c = omega (arith, digit_byte c.args.text.now c.args.place c.requires c.if-text-place.false)

pub returns : goal.returns
returns c =
    let text = c.args.text.now in
    let place = c.args.place in
    let byte = digit_byte text place c.requires c.if-text-place.false in
    (sym (the_digit text place c.if-text-place.false), omega (arith, byte))
