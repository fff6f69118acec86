use mathlib.Core.Path.{sym, ap, ◌∙◌}
use mathlib.Core.Bool.{not}
use native.Mathlib.Omega.{arith}
use Rattle.reckoning.proofs.RefusalCases.{inside, outside_of}
use Rattle.citation.proofs.WholeRecord.{no_such_length, another_length, whole_of_nine, whole_of_one, whole_of_five}
use Rattle.citation.specs.Record.{kind_of}
use borrow.Author.Tests.{eq-eqb, ne_eqb}
use Rattle.citation.proofs.judge.whole.Goals as goal

pub returns-in-3 : goal.returns-in-3
returns-in-3 c =
    let s = c.args.s.now in
    (sym (whole_of_nine s c.if-length-eq9.true (omega arith)) ∙ ap not (inside 3 4 (kind_of s) (record { at_least = omega arith; at_most = omega arith })), omega arith)

pub returns-in-4 : goal.returns-in-4
returns-in-4 c =
    let s = c.args.s.now in
    (sym (whole_of_nine s c.if-length-eq9.true (omega arith)) ∙ ap not (inside 3 4 (kind_of s) (record { at_least = omega arith; at_most = omega arith })), omega arith)

pub returns-in-1 : goal.returns-in-1
returns-in-1 c =
    let s = c.args.s.now in
    (sym (whole_of_one s (omega arith) (omega arith) (omega arith)), omega arith)

pub returns-in-5 : goal.returns-in-5
returns-in-5 c =
    let s = c.args.s.now in
    (sym (whole_of_five s (omega arith) (omega arith) (λ one. omega arith)) ∙ eq-eqb _ 5 (omega arith), omega arith)

pub returns-then-length-lt9 : goal.returns-then-length-lt9
returns-then-length-lt9 c = sym (no_such_length c.args.s.now (λ i. omega arith))

pub returns-then-length-gt10 : goal.returns-then-length-gt10
returns-then-length-gt10 c = sym (no_such_length c.args.s.now (λ i. omega arith))

pub returns-then-le16-length : goal.returns-then-le16-length
returns-then-le16-length c = sym (another_length c.args.s.now (λ same. omega arith))

pub returns-in_default : goal.returns-in_default
returns-in_default c =
    let s = c.args.s.now in
    sym (whole_of_nine s c.if-length-eq9.true (omega arith)) ∙ ap not (outside_of 3 4 (kind_of s) (λ i. omega (arith, i, c.in_default)))

pub returns-in_default-kind : goal.returns-in_default-kind
returns-in_default-kind c =
    let s = c.args.s.now in
    sym (whole_of_five s (omega arith) (omega arith) (λ one. omega (arith, c.in_default-kind))) ∙ ne_eqb (kind_of s) 5 (λ five. omega (arith, c.in_default-kind))
