use native.Mathlib.Omega.{arith}
use Rattle.text.proofs.Putting.{all_put, put_three}
use Rattle.pages.proofs.PentadText.{put_in_force_line}
use Rattle.pages.proofs.pentads.in_force_line.Goals as goal

pub returns : goal.returns
returns c = all_put (search (put_in_force_line, put_three)) (omega arith)
