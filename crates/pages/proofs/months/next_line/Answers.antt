use native.Mathlib.Omega.{arith}
use Rattle.text.proofs.Putting.{all_put, put_last}
use Rattle.pages.proofs.PageText.{put_next}
use Rattle.pages.proofs.months.next_line.Goals as goal

pub returns : goal.returns
returns c = all_put (search (put_next, put_last)) (omega arith)
