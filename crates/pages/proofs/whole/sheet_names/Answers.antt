use native.Mathlib.Omega.{arith}
use borrow.Author.Rules.{rules}
use Rattle.text.proofs.Writing.{wrote_no_texts, wrote_all_texts}
use Rattle.reckoning.specs.Told.{sheet_answered}
use Rattle.pages.specs.Page.{name_at, sheet_names}
use Rattle.pages.proofs.PageText.{wrote_name_more}
use Rattle.pages.proofs.whole.sheet_names.Goals as goal

pub loop-name-init : goal.loop-name-init
loop-name-init c = (omega arith, wrote_no_texts _ (omega arith))

pub loop-name-preserved : goal.loop-name-preserved
loop-name-preserved c = (omega arith, search (rules, wrote_name_more))

pub returns : goal.returns
unfolding sheet_names
returns c = (wrote_all_texts (name_at (sheet_answered c.args.sheet)) _ _ (search rules) c.loop-name.invariant.1, omega arith)
