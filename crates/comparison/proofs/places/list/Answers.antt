use Prim.Native.Nat.{◌+◌}
use mathlib.Core.Path.{refl, subst₂, sym}
use native.Mathlib.Omega.{arith}
use Rattle.reckoning.specs.Told.{year_answered}
use Rattle.comparison.proofs.Listing.{ListedOf, listed_none_yet, listed_one_more, listed_no_more, listed_all}
use Rattle.comparison.proofs.places.list.Goals as goal
use Rattle.comparison.proofs.places.list.Goals.{in-Some, in_default}

pub loop-i-init : goal.loop-i-init
loop-i-init c = (omega arith, listed_none_yet _ _ c.unused-places.ensures)

pub loop-i-preserved : goal.loop-i-preserved
loop-i-preserved c =
    let so_far = c.loop-i.invariant in
    let step = c.match-difference_at in
    elim step.branch [
      | in-Some w ↦ (
        omega arith,
        subst₂ (ListedOf (year_answered c.args.first.now) (year_answered c.args.second.now) (c.loop-i.i + 1)) (sym w.count-is) (sym w.places-is)
            (listed_one_more _ _ so_far.1 c.difference_at.ensures w.in-Some.is refl (omega arith)),
      )
      | in_default w ↦ (
        omega arith,
        subst₂ (ListedOf (year_answered c.args.first.now) (year_answered c.args.second.now) (c.loop-i.i + 1)) (sym w.count-is) (sym w.places-is)
            (listed_no_more _ _ so_far.1 c.difference_at.ensures w.in_default.is),
      )
    ]

pub returns : goal.returns
returns c = listed_all _ _ c.loop-i.invariant.1 (omega arith)
