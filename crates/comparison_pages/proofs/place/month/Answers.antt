use native.Mathlib.Omega.{arith}
use Rattle.text.proofs.Putting.{all_put, put_then, put_last}
use Rattle.comparison_pages.proofs.PlaceText.{put_no_month, put_a_month}
use Rattle.comparison_pages.proofs.place.month.Goals as goal

pub returns-then-months-i : goal.returns-then-months-i
returns-then-months-i c = all_put (search (put_no_month, put_last)) (omega arith)

pub returns : goal.returns
returns c = all_put (search (put_a_month, put_then, put_last)) (omega arith)
