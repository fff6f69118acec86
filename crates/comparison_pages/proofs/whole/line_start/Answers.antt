use native.Mathlib.Omega.{arith}
use Rattle.text.proofs.Putting.{all_put}
use Rattle.comparison_pages.proofs.PageText.{put_line_start}
use Rattle.comparison_pages.proofs.whole.line_start.Goals as goal

pub returns : goal.returns
returns c = all_put (search put_line_start) (omega arith)
