use Prim.Native.Nat.{◌+◌, ◌*◌, ◌≤◌}
use lib.ListN.{take}
use Rattle.text.specs.Piece.{fields}
use Rattle.text.specs.Wrote.{Wrote}
use Rattle.text.proofs.put.fields.Given as goal

abbrev pub invariant-loop-n : goal.invariant-loop-n
invariant-loop-n l =
    (l.at ≤ l.start + 11 * l.n-index) × Wrote l.initial.out l.start (fields (take l.n-index l.numbers)) l.out l.at
