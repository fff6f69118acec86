use Prim.Native.Nat.{◌+◌, ◌*◌, ◌≤◌}
use Rattle.text.specs.Wrote.{Wrote}
use Rattle.text.specs.Piece.{texts_up_to}
use Rattle.reckoning.specs.Told.{sheet_answered}
use Rattle.pages.specs.Page.{name_at}
use Rattle.pages.proofs.whole.sheet_names.Given as goal

abbrev pub invariant-loop-name : goal.invariant-loop-name
invariant-loop-name l =
    (l.at ≤ l.start + 11 * l.name-index) × Wrote l.initial.out l.start (texts_up_to (name_at (sheet_answered l.fn.sheet)) l.name-index) l.out l.at
