-- A number that is read so far, with what a digit's test tells.
use Rattle.std.proofs.Common.{arith, sym, ◌≡◌, ◌+◌, ◌*◌, ◌-◌, min, get_or, ◌∙◌}
use borrow.Author.Tests.{eqb-true}
use Rattle.arguments.specs.Number.{most}
use Rattle.arguments.proofs.Digits.{reading_more, reading_stops, reading_ends, no_text}
use Rattle.arguments.proofs.number.read.Goals as goal

pub returns-then-is_empty : goal.returns-then-is_empty
returns-then-is_empty c = no_text _ (eqb-true _ _ (sym c.is_empty.ensures ∙ c.if-is_empty.true))

pub returns-then-not-is_digit : goal.returns-then-not-is_digit
returns-then-not-is_digit c =
    reading_stops _ _ _ c.loop-byte.invariant.2 c.loop-byte-test.true
    (sym c.is_digit.ensures ∙ c.if-not-is_digit.true)

pub loop-byte-preserved : goal.loop-byte-preserved
loop-byte-preserved c =
    let inv = c.loop-byte.invariant in
    let digit = sym c.is_digit.ensures ∙ c.if-not-is_digit.false in
    let byte = get_or c.args.text.now c.loop-byte.byte-index 0 in
    let n_is : c.saturating_add-n.result ≡ min most (c.loop-byte.n * 10 + (byte - 48)) = omega arith in
    (inv.0, omega arith, rw n_is (reading_more _ _ _ inv.2 c.loop-byte-test.true digit))

pub returns : goal.returns
returns c =
    let inv = c.loop-byte.invariant in
    reading_ends _ _ _ inv.2 (omega arith) inv.0 inv.1
