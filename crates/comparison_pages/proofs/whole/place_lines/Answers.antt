use Prim.Native.Nat.{◌<◌}
use mathlib.Core.Path.{◌≡◌}
use native.Mathlib.Omega.{arith}
use borrow.Author.Rules.{rules}
use Rattle.reckoning.specs.Told.{year_answered}
use Rattle.comparison.specs.Told.{comparison_answered}
use Rattle.text.proofs.Writing.{wrote_no_texts, wrote_all_texts}
use Rattle.comparison_pages.specs.ComparisonPage.{place_at, place_lines}
use Rattle.comparison_pages.proofs.PageText.{wrote_more_places}
use Rattle.comparison_pages.proofs.PlacesTold.{place_printable}
use Rattle.comparison_pages.proofs.whole.place_lines.Goals as goal

pub loop-listed-init : goal.loop-listed-init
loop-listed-init c = (omega arith, wrote_no_texts _ (omega arith))

pub line-at-requires : goal.line-at-requires
line-at-requires c = (search rules, place_printable {compared = comparison_answered c.args.compared} c.requires.1 (search rules))

pub loop-listed-preserved : goal.loop-listed-preserved
loop-listed-preserved c =
    let args = c.args in
    let more : c.loop-listed.listed-index < args.compared.count = search rules in
    (omega arith, wrote_more_places (year_answered args.first) (year_answered args.second) (comparison_answered args.compared) _ c.loop-listed.invariant.1 c.line-at.ensures.0 more)

pub returns : goal.returns
unfolding place_lines
returns c =
    let args = c.args in
    let all : c.loop-listed.listed-index ≡ args.compared.count = search rules in
    (wrote_all_texts (place_at (year_answered args.first) (year_answered args.second) (comparison_answered args.compared)) _ _ all c.loop-listed.invariant.1, omega arith)
