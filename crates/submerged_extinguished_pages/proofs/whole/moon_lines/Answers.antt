use Prim.Native.Nat.{◌<◌}
use mathlib.Core.Path.{◌≡◌}
use native.Mathlib.Omega.{arith}
use borrow.Author.Rules.{rules}
use Rattle.text.proofs.Writing.{wrote_no_texts, wrote_all_texts}
use Rattle.submerged_extinguished.specs.Told.{moons_answered}
use Rattle.submerged_extinguished_pages.specs.DistancePages.{moon_line_at, moon_lines}
use Rattle.submerged_extinguished_pages.proofs.PageText.{wrote_moon_more}
use Rattle.submerged_extinguished_pages.proofs.whole.moon_lines.Goals as goal

pub loop-i-init : goal.loop-i-init
loop-i-init c = (omega arith, wrote_no_texts _ (omega arith))

pub moon_line-at-requires : goal.moon_line-at-requires
moon_line-at-requires c = let more : c.loop-i.i < c.args.days.count = search rules in omega arith

pub loop-i-preserved : goal.loop-i-preserved
loop-i-preserved c =
    let more : c.loop-i.i < c.args.days.count = search rules in
    (omega arith, wrote_moon_more (moons_answered c.args.days) _ c.loop-i.invariant.1 c.moon_line-at.ensures.0 more)

pub returns : goal.returns
unfolding moon_lines
returns c =
    let all : c.loop-i.i ≡ c.args.days.count = search rules in
    (wrote_all_texts (moon_line_at (moons_answered c.args.days)) _ _ all c.loop-i.invariant.1, omega arith)
