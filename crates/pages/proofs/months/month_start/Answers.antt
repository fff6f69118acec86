use native.Mathlib.Omega.{arith}
use Rattle.text.proofs.Putting.{all_put}
use Rattle.pages.proofs.PageText.{put_month_start}
use Rattle.pages.proofs.months.month_start.Goals as goal

pub returns : goal.returns
returns c = all_put (search put_month_start) (omega arith)
