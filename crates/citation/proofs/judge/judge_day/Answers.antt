use mathlib.Core.Path.{refl, sym, ◌∙◌}
use native.Mathlib.Omega.{arith}
use Rattle.reckoning.proofs.RefusalCases.{inside_of}
use Rattle.reckoning.proofs.AnswersFit.{month_fits}
use Rattle.citation.proofs.JudgementCases.{day_wrong_lem, day_right}
use Rattle.citation.proofs.judge.judge_day.Goals as goal
use Rattle.citation.proofs.judge.judge_day.Goals.{Else-outside}

pub returns-then-outside : goal.returns-then-outside
returns-then-outside c =
    day_wrong_lem _ _ _ _ _ _ c.requires refl (sym c.outside.ensures ∙ c.if-outside.true)

pub overflow_add-m : goal.overflow_add-m
overflow_add-m c =
    let small = month_fits _ _ _ _ _ c.requires refl in
    omega arith

pub overflow_sub-m : goal.overflow_sub-m
overflow_sub-m c =
    let args = c.args in
    let least = inside_of 1 args.m.length args.day ((sym c.outside.ensures ∙ c.if-outside.false)) in
    omega arith

pub returns : goal.returns
returns c =
    c.accept.ensures ∙ day_right _ _ _ _ _ _ c.requires refl (sym c.outside.ensures ∙ c.if-outside.false)
