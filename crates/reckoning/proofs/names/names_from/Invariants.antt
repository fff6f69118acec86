use mathlib.Core.Path.{◌≡◌}
use Rattle.reckoning.specs.Requests.{name_at, no_names}
use Rattle.reckoning.specs.Filled.{filled}
use Rattle.reckoning.proofs.names.names_from.Given as goal

abbrev pub invariant-loop-i : goal.invariant-loop-i
invariant-loop-i l = l.names ≡ filled (name_at l.first) no_names l.i
