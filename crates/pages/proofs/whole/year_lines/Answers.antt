use native.Mathlib.Omega.{arith}
use borrow.Author.Rules.{rules}
use Rattle.std.proofs.Common.{◌+◌, ◌*◌, ◌≤◌}
use Rattle.reckoning.specs.Requests.{qi_of}
use Rattle.text.specs.Wrote.{Wrote}
use Rattle.pages.specs.StepLines.{step_lines}
use Rattle.pages.specs.Page.{qi_word}
use Rattle.pages.proofs.YearAsked.{qi_given}
use Rattle.pages.proofs.PageText.{wrote_year_lines}
use Rattle.pages.proofs.whole.year_lines.Goals as goal
use Rattle.pages.proofs.whole.year_lines.Goals.{In_ok-at}

-- The qi are written, since none of a year in scope is refused.
qi_written : (c : In_ok-at) → Wrote c.year_line-at.new.out c.year_line-at.result (step_lines qi_word (qi_of c.args.system c.args.year) 25) c.lines.new.out c.in_ok-at.at
    × (c.in_ok-at.at ≤ c.year_line-at.result + 62 * 25)
qi_written c =
    c.in_ok-at.ensures (qi_of c.args.system c.args.year) (λ i m is. search rules) (λ i h. qi_given _ _ c.requires.1 i h)

pub returns-in_err-at : goal.returns-in_err-at
returns-in_err-at c =
    absurd (c.in_err-at.ensures (qi_of c.args.system c.args.year) (λ i m is. search rules) (λ i h. qi_given _ _ c.requires.1 i h))

pub lines-at-requires : goal.lines-at-requires
lines-at-requires c =
    let qi = qi_written (goal.at.lines-at-requires c).In_ok-at in
    (omega (arith, qi.1, qi.0.same_length), c.requires.2)

pub next_line-at-requires : goal.next_line-at-requires
next_line-at-requires c =
    let qi = qi_written (goal.at.next_line-at-requires c).In_ok-at in
    (omega (arith, qi.1, qi.0.same_length), c.requires.2)

pub names_line-requires : goal.names_line-requires
names_line-requires c =
    let qi = qi_written (goal.at.names_line-requires c).In_ok-at in
    (omega (arith, qi.1, qi.0.same_length), c.requires.3)

pub returns : goal.returns
returns c =
    let qi = qi_written (goal.at.returns c).In_ok-at in
    let year = c.year_line-at.ensures.0 in
    let lines = wrote_year_lines _ _ _ _ _ year qi.0 c.lines-at.ensures.0 c.next_line-at.ensures.0 c.names_line.ensures.0 in
    (lines, omega (arith, qi.1))
