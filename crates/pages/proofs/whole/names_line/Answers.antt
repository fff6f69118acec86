use native.Mathlib.Omega.{arith}
use Rattle.text.proofs.Putting.{all_put}
use Rattle.pages.proofs.PageText.{put_names}
use Rattle.pages.proofs.whole.names_line.Goals as goal

pub returns : goal.returns
returns c = all_put (search put_names) (omega arith)
