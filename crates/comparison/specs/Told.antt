-- How what the code returns tells that answer.
use Rattle.std.specs.Prelude.{Result}
use Rattle.reckoning.specs.declared.refusal.Refusal.{Refusal}
use Rattle.reckoning.specs.RefusalNumbers.{number_of}
use Rattle.reckoning.specs.Told.{told}
use Rattle.comparison.specs.declared.data.Comparison.{Comparison}
use Rattle.comparison.specs.Answers.{ComparisonAnswer}
use Rattle.comparison.specs.Comparisons.{no_comparison}

abbrev pub comparison_answered : Comparison → ComparisonAnswer
comparison_answered c = record { refusal = 0; count = c.count; places = c.places }

abbrev pub told_comparison : Result Comparison Refusal → ComparisonAnswer
told_comparison r = told comparison_answered (λ e. no_comparison (number_of e)) r
