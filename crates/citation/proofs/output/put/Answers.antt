use mathlib.Core.Path.{ap, ◌∙◌}
use mathlib.Core.List.{◌++◌}
use lib.ListN.{drop}
use native.Mathlib.Omega.{arith}
use Rattle.citation.proofs.TenBytes.{put_with_room, put_without_room}
use Rattle.citation.proofs.output.put.Goals as goal

pub returns-then-output-ge10-clause-output_after : goal.returns-then-output-ge10-clause-output_after
returns-then-output-ge10-clause-output_after c =
    ap (λ t. t ++ drop 10 c.args.output.now) c.copy_from_slice.ensures.after
    ∙ put_with_room c.args.output.now c.args.bytes c.if-output-ge10.true

pub returns-clause-output_after : goal.returns-clause-output_after
returns-clause-output_after c = put_without_room c.args.output.now c.args.bytes (omega arith)
