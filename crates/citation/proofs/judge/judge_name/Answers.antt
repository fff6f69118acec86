use mathlib.Core.Path.{refl, sym, ◌∙◌}
use native.Mathlib.Omega.{arith}
use Rattle.reckoning.proofs.AnswersFit.{month_fits}
use Rattle.citation.proofs.JudgementCases.{no_name, name_past, name_right_after}
use Rattle.citation.proofs.judge.judge_name.Goals as goal

pub returns-then-outside : goal.returns-then-outside
returns-then-outside c =
    no_name _ _ _ _ _ _ c.requires refl (sym c.outside.ensures ∙ c.if-outside.true)

pub days_to_name-days-requires : goal.days_to_name-days-requires
days_to_name-days-requires c = (month_fits _ _ _ _ _ c.requires refl).head_small

pub returns-then-m-days : goal.returns-then-m-days
returns-then-m-days c =
    let past = name_past _ _ _ _ _ _ c.requires refl (sym c.outside.ensures ∙ c.if-outside.false) in
    past (omega (arith, c.if-m-days.true, c.days_to_name-days.ensures))

pub overflow_add-m : goal.overflow_add-m
overflow_add-m c = omega (arith, month_fits _ _ _ _ _ c.requires refl, c.if-m-days.false)

pub returns : goal.returns
returns c =
    let right = name_right_after _ _ _ _ _ _ c.requires c.days_to_name-days.ensures in
    c.accept.ensures ∙ right refl (sym c.outside.ensures ∙ c.if-outside.false) c.if-m-days.false
