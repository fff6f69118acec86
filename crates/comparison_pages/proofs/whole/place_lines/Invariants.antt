use Prim.Native.Nat.{◌+◌, ◌*◌, ◌≤◌}
use Rattle.reckoning.specs.Told.{year_answered}
use Rattle.comparison.specs.Told.{comparison_answered}
use Rattle.text.specs.Piece.{texts_up_to}
use Rattle.text.specs.Wrote.{Wrote}
use Rattle.comparison_pages.specs.ComparisonPage.{place_at}
use Rattle.comparison_pages.proofs.whole.place_lines.Given as goal

abbrev pub invariant-loop-listed : goal.invariant-loop-listed
invariant-loop-listed l =
    (l.at ≤ l.start + 75 * l.listed-index)
    × Wrote l.initial.out l.start (texts_up_to (place_at (year_answered l.first) (year_answered l.second) (comparison_answered l.fn.compared)) l.listed-index) l.out l.at
