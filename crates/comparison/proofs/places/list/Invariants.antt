use Prim.Native.Nat.{◌≤◌}
use Rattle.reckoning.specs.Told.{year_answered}
use Rattle.comparison.proofs.Listing.{ListedOf}
use Rattle.comparison.proofs.places.list.Given as goal

abbrev pub invariant-loop-i : goal.invariant-loop-i
invariant-loop-i l = (l.count ≤ l.i) × ListedOf (year_answered l.first) (year_answered l.second) l.i l.count l.places
