-- How what the code returns tells those answers.
use Rattle.std.specs.Prelude.{Result}
use Rattle.reckoning.specs.declared.refusal.Refusal.{Refusal}
use Rattle.reckoning.specs.RefusalNumbers.{number_of}
use Rattle.reckoning.specs.Told.{told}
use Rattle.submerged_extinguished.specs.declared.data.DayDistance.{DayDistance}
use Rattle.submerged_extinguished.specs.declared.data.ExtinguishedDays.{ExtinguishedDays}
use Rattle.submerged_extinguished.specs.Records.{DayAnswer, MoonsAnswer}
use Rattle.submerged_extinguished.specs.Answers.{no_answer, answer_on, no_days}

abbrev pub told_day : Result DayDistance Refusal → DayAnswer
told_day r = told answer_on (λ e. no_answer (number_of e)) r

abbrev pub moons_answered : ExtinguishedDays → MoonsAnswer
moons_answered d = record { refusal = 0; count = d.count; moons = d.moons }

abbrev pub told_moons : Result ExtinguishedDays Refusal → MoonsAnswer
told_moons r = told moons_answered (λ e. no_days (number_of e)) r
