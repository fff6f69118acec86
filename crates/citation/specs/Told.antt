-- How what the code returns tells that answer.
use Rattle.std.specs.Prelude.{Result}
use Rattle.reckoning.specs.declared.refusal.Refusal.{Refusal}
use Rattle.reckoning.specs.RefusalNumbers.{number_of, month_told}
use Rattle.reckoning.specs.Told.{told}
use Rattle.citation.specs.declared.judge.Judgement.{Judgement}
use Rattle.citation.specs.Answers.{JudgementAnswer}
use Rattle.citation.specs.Store.{refuse_telling}

abbrev pub judgement_answered : Judgement → JudgementAnswer
judgement_answered j = record { refusal = 0; day = j.day; stored = j.stored; told = 0 }

abbrev pub told_judgement : Result Judgement Refusal → JudgementAnswer
told_judgement r = told judgement_answered (λ e. refuse_telling (number_of e) (month_told e)) r
