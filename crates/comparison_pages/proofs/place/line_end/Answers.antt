use native.Mathlib.Omega.{arith}
use Rattle.comparison_pages.proofs.PlaceText.{wrote_line_end}
use Rattle.comparison_pages.proofs.place.line_end.Goals as goal

pub returns : goal.returns
returns c = (search wrote_line_end, omega arith)
