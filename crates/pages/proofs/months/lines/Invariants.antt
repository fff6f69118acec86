use Prim.Native.Nat.{◌+◌, ◌*◌, ◌≤◌}
use Rattle.text.specs.Wrote.{Wrote}
use Rattle.text.specs.Piece.{texts_up_to}
use Rattle.reckoning.specs.Told.{year_answered}
use Rattle.pages.specs.Page.{month_at}
use Rattle.pages.proofs.months.lines.Given as goal

abbrev pub invariant-loop-i : goal.invariant-loop-i
invariant-loop-i l =
    (l.at ≤ l.start + 84 * l.i) × Wrote l.initial.out l.start (texts_up_to (month_at (year_answered l.months)) l.i) l.out l.at
