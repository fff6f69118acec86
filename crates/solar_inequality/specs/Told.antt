-- How what the code returns tells those answers.
use Rattle.std.specs.Prelude.{ℕ, Result}
use Rattle.reckoning.specs.declared.refusal.Refusal.{Refusal}
use Rattle.reckoning.specs.RefusalNumbers.{number_of}
use Rattle.reckoning.specs.Told.{told}
use Rattle.solar_inequality.specs.Records.{AmountAnswer}
use Rattle.solar_inequality.specs.Answers.{amount_answered, no_amount}

abbrev pub told_amount : Result ℕ Refusal → AmountAnswer
told_amount r = told amount_answered (λ e. no_amount (number_of e)) r
