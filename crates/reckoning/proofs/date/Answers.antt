use mathlib.Core.Path.{refl}
use Rattle.std.proofs.Common.{rules}
use Rattle.reckoning.specs.Requests.{no_date, date_in, date_of}
use Rattle.reckoning.specs.Told.{told_date}
use Rattle.reckoning.proofs.ToldCases.{by_system}
use Rattle.reckoning.proofs.date.Goals as goal

pub returns : goal.returns
unfolding date_of
returns c =
    let args = c.args in
    by_system told_date (λ k. date_in k args.day.0) no_date args.system refl c.by_system.ensures.refused
    (λ s. let p = c.by_system.ensures.answered s in search rules)
