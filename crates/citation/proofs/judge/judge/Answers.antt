use mathlib.Core.Path.{sym, subst, ◌∙◌}
use Rattle.citation.specs.JudgeParts.{Whole}
use Rattle.citation.proofs.WholeRecord.{whole_record, whole_judged}
use Rattle.citation.proofs.judge.judge.Goals as goal

pub judge_kind-requires : goal.judge_kind-requires
judge_kind-requires c = subst (Whole _) (sym c.in-Some.ensures.1) (whole_record _ c.in-Some.ensures.0)

pub returns-in-Some : goal.returns-in-Some
returns-in-Some c = c.judge_kind.ensures ∙ whole_judged _ c.in-Some.ensures.0
