use native.Mathlib.Omega.{arith}
use Rattle.comparison_pages.proofs.PlaceText.{wrote_place}
use Rattle.comparison_pages.proofs.place.line.Goals as goal

pub returns : goal.returns
returns c = (search wrote_place, omega arith)
