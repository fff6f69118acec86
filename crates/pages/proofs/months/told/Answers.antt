use Rattle.reckoning.specs.Told.{year_answered}
use Rattle.pages.specs.Page.{told_month}
use Rattle.pages.proofs.YearAsked.{head_rises}
use Rattle.pages.proofs.months.told.Goals as goal

pub overflow_sub-days : goal.overflow_sub-days
overflow_sub-days c = head_rises (year_answered c.args.months) _ c.requires.0.tiled c.requires.1

pub returns : goal.returns
unfolding told_month
returns c = rw c.name.ensures
