use mathlib.Core.Path.{refl, ◌∙◌}
use Rattle.std.proofs.Common.{rules}
use Rattle.reckoning.specs.Requests.{answer_of_year, year_head_in, no_year_head, year_head_of}
use Rattle.reckoning.specs.Told.{told_year_head}
use Rattle.reckoning.proofs.AnswerUnless.{system_then_year}
use Rattle.reckoning.proofs.ToldCases.{by_system}
use Rattle.reckoning.proofs.reckoned_head.Goals as goal

pub returns : goal.returns
unfolding year_head_of
returns c =
    let args = c.args in
    by_system told_year_head (λ k. answer_of_year k args.year year_head_in no_year_head) no_year_head args.system refl c.by_system.ensures.refused
    (λ s. let p = c.by_system.ensures.answered s in search rules)
    ∙ system_then_year year_head_in no_year_head args.system args.year
