use Rattle.submerged_extinguished.proofs.MoonList.{Listing}
use Rattle.submerged_extinguished.proofs.rules.Numbers.extinguished_days.Given as goal

abbrev pub invariant-loop-i : goal.invariant-loop-i
invariant-loop-i l = Listing l.self.constants l.self.rule l.count l.initial.moon l.i l.moons l.moon
