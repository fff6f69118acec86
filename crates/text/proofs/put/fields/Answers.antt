use native.Mathlib.Omega.{arith}
use Rattle.text.specs.Piece.{fields}
use Rattle.text.proofs.Writing.{wrote_none, wrote_more_fields, wrote_all_fields}
use Rattle.text.proofs.put.fields.Goals as goal

pub loop-n-init : goal.loop-n-init
unfolding fields
loop-n-init c = (omega arith, wrote_none _ _ (omega arith))

pub loop-n-preserved : goal.loop-n-preserved
loop-n-preserved c = (omega arith, search wrote_more_fields)

pub returns : goal.returns
returns c = (search wrote_all_fields, omega arith)
