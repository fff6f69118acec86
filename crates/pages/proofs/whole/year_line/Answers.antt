use native.Mathlib.Omega.{arith}
use Rattle.text.proofs.Putting.{all_put, put_three}
use Rattle.pages.proofs.PageText.{put_year_line}
use Rattle.pages.proofs.whole.year_line.Goals as goal

pub returns : goal.returns
returns c = all_put (put_year_line _ _ _ _ (search put_three)) (omega arith)
