use native.Mathlib.Omega.{arith}
use Rattle.comparison_pages.proofs.PageText.{wrote_compare_line}
use Rattle.comparison_pages.proofs.whole.compare_line.Goals as goal

pub returns : goal.returns
returns c = (search wrote_compare_line, omega arith)
