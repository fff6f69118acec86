use native.Mathlib.Omega.{arith}
use Rattle.text.proofs.Putting.{all_put, put_three}
use Rattle.lines.proofs.Lines.{put_stored}
use Rattle.lines.proofs.line.put_day.Goals as goal

pub returns : goal.returns
returns c =
    all_put
    (put_stored c.args.j.stored c.args.j.day.0 c.le16.ensures.0 c.day_name-name.ensures (search put_three))
    (omega arith)
