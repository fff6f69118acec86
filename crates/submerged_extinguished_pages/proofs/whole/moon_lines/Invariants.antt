use Prim.Native.Nat.{◌+◌, ◌*◌, ◌≤◌}
use Rattle.text.specs.Wrote.{Wrote}
use Rattle.text.specs.Piece.{texts_up_to}
use Rattle.submerged_extinguished.specs.Told.{moons_answered}
use Rattle.submerged_extinguished_pages.specs.DistancePages.{moon_line_at}
use Rattle.submerged_extinguished_pages.proofs.whole.moon_lines.Given as goal

abbrev pub invariant-loop-i : goal.invariant-loop-i
invariant-loop-i l =
    (l.at ≤ l.start + 38 * l.i) × Wrote l.initial.out l.start (texts_up_to (moon_line_at (moons_answered l.fn.days)) l.i) l.out l.at
