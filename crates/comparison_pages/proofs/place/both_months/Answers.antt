use native.Mathlib.Omega.{arith}
use Rattle.comparison_pages.proofs.PlaceText.{wrote_both}
use Rattle.comparison_pages.proofs.place.both_months.Goals as goal

pub returns : goal.returns
returns c = (search wrote_both, omega arith)
