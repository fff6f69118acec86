use mathlib.Core.Path.{ap}
use lib.ListN.{replicate}
use native.Mathlib.Omega.{arith}
use Rattle.submerged_extinguished.proofs.MoonList.{listing_starts, moon_fits, listing_more, listing_all}
use Rattle.submerged_extinguished.proofs.rules.Numbers.extinguished_days.Goals as goal

pub loop-i-init : goal.loop-i-init
loop-i-init c = listing_starts (ap (replicate 13) c.unused-moons.ensures)

pub next_moon-moon-requires : goal.next_moon-moon-requires
next_moon-moon-requires c = moon_fits c.loop-i.invariant _ c.first_moon-moon.ensures c.requires.1 (omega arith)

pub loop-i-preserved : goal.loop-i-preserved
loop-i-preserved c =
    listing_more c.loop-i.invariant c.args.self.fits.holds (omega arith) c.extinguished_on.ensures c.next_moon-moon.ensures

pub returns : goal.returns
returns c = listing_all c.loop-i.invariant (omega arith) _ c.first_moon-moon.ensures c.requires.1
