use Prim.Native.Nat.{◌+◌, ◌*◌, ◌≤◌}
use Rattle.text.specs.Wrote.{Wrote}
use Rattle.text.specs.Piece.{texts_up_to}
use Rattle.submerged_extinguished_pages.specs.DistancePages.{qi_line}
use Rattle.submerged_extinguished_pages.proofs.whole.qi_lines.Given as goal

abbrev pub invariant-loop-i : goal.invariant-loop-i
invariant-loop-i l =
    (l.at ≤ l.start + 36 * l.i) × Wrote l.initial.out l.start (texts_up_to (qi_line l.system l.year) l.i) l.out l.at
