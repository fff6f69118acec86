use mathlib.Core.Path.{◌≡◌}
use Prim.Native.Nat.{◌+◌}
use Rattle.reckoning.specs.MonthSpans.{month_span}
use Rattle.reckoning.specs.Requests.{head_at, number_at, leap_at, remainder_at, held_at, no_heads, no_numbers, no_qi}
use Rattle.reckoning.specs.Filled.{filled}
use Rattle.reckoning.proofs.calendars.Calendar.months_from.Given as goal

abbrev pub invariant-loop-i : goal.invariant-loop-i
invariant-loop-i l =
    (l.m ≡ month_span l.self.c (l.initial.m.month + l.i))
    × (l.heads ≡ filled (head_at l.self.c l.initial.m.month) no_heads l.i)
    × (l.numbers ≡ filled (number_at l.self.c l.initial.m.month) no_numbers l.i)
    × (l.leaps ≡ filled (leap_at l.self.c l.initial.m.month) no_numbers l.i)
    × (l.remainders ≡ filled (remainder_at l.self.c l.initial.m.month) no_numbers l.i)
    × (l.held ≡ filled (held_at l.self.c l.initial.m.month) no_qi l.i)
