use native.Mathlib.Omega.{arith}
use Rattle.text.proofs.Writing.{wrote_no_texts, wrote_all_texts}
use Rattle.reckoning.specs.Told.{year_answered}
use Rattle.pages.specs.Page.{month_at, month_lines}
use Rattle.pages.proofs.PageText.{wrote_month_more}
use Rattle.pages.proofs.months.lines.Goals as goal

pub loop-i-init : goal.loop-i-init
loop-i-init c = (omega arith, wrote_no_texts _ (omega arith))

pub loop-i-preserved : goal.loop-i-preserved
loop-i-preserved c = (omega arith, search wrote_month_more)

pub returns : goal.returns
unfolding month_lines
returns c = (wrote_all_texts (month_at (year_answered c.args.months)) _ _ (omega arith) c.loop-i.invariant.1, omega arith)
