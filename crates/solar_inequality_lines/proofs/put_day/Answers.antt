use native.Mathlib.Omega.{arith}
use Rattle.text.proofs.Putting.{all_put}
use Rattle.solar_inequality_lines.proofs.LineText.{put_day_line}
use Rattle.solar_inequality_lines.proofs.put_day.Goals as goal

pub returns : goal.returns
returns c = all_put (search put_day_line) (omega arith)
