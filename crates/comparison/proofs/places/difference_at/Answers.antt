use Rattle.comparison.proofs.PlaceCases.{told_same, told_days, told_second_lacks, told_first_lacks, told_none}
use Rattle.comparison.proofs.places.difference_at.Goals as goal

pub returns-in-Some-Some : goal.returns-in-Some-Some
returns-in-Some-Some c =
    let both = c.in-Some-Some in
    told_same _ _ _ c.month_at.ensures c.month_at-2.ensures both.is-0 both.is-1 both.month-is both.other-is c.if-eq.ensures

pub returns-in-Some-Some-2 : goal.returns-in-Some-Some-2
returns-in-Some-Some-2 c =
    let both = c.in-Some-Some in
    told_days _ _ _ c.month_at.ensures c.month_at-2.ensures both.is-0 both.is-1 both.month-is both.other-is c.if-eq.ensures
    c.in-Some-Some-2.is-0 c.in-Some-Some-2.is-1 c.days_between.ensures

pub returns-in-Some-None : goal.returns-in-Some-None
returns-in-Some-None c = search told_second_lacks

pub returns-in-None-Some : goal.returns-in-None-Some
returns-in-None-Some c = search told_first_lacks

pub returns-in-None-None : goal.returns-in-None-None
returns-in-None-None c = search told_none
