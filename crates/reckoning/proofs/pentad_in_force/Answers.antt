use mathlib.Core.Path.{refl}
use Rattle.std.proofs.Common.{rules}
use Rattle.reckoning.specs.Requests.{none_in_force, in_force_in, pentad_in_force}
use Rattle.reckoning.specs.Told.{told_pentad}
use Rattle.reckoning.proofs.ToldCases.{by_system}
use Rattle.reckoning.proofs.pentad_in_force.Goals as goal

pub returns : goal.returns
unfolding pentad_in_force
returns c =
    let args = c.args in
    by_system told_pentad (λ k. in_force_in k args.day.0) none_in_force args.system refl c.by_system.ensures.refused
    (λ s. let p = c.by_system.ensures.answered s in search rules)
