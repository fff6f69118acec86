use mathlib.Core.Path.{sym, subst}
use lib.Dec.{T}
use lib.Ieee.{of_bits}
use Rattle.day_fraction.proofs.Ends.{by_bits, not_below_one}
use Rattle.day_fraction.proofs.is_fraction.Goals as goal

pub returns-then-f : goal.returns-then-f
unfolding of_bits
returns-then-f c = by_bits _ (subst T (sym c.well_formed.0.1) tt) c.if-f.true

pub returns-else-f : goal.returns-else-f
unfolding of_bits
returns-else-f c = not_below_one _ c.if-f.false
