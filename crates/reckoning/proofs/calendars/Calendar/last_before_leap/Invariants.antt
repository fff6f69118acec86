use Prim.Native.Nat.{◌-◌}
use Rattle.calendar.specs.LeapMonth.{LeapBetween}
use Rattle.reckoning.proofs.calendars.Calendar.last_before_leap.Given as goal

abbrev pub invariant-loop-b : goal.invariant-loop-b
invariant-loop-b l = LeapBetween l.self.c l.n l.b.low l.b.high

abbrev pub decreases-loop-b : goal.decreases-loop-b
decreases-loop-b l = l.b.high - l.b.low
