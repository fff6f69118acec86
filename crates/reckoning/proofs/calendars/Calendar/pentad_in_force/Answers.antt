use Rattle.reckoning.proofs.PentadRequest.{pentad_before, pentad_outside, pentad_inside}
use Rattle.reckoning.proofs.calendars.Calendar.pentad_in_force.Goals as goal

pub returns-then-before_epoch : goal.returns-then-before_epoch
returns-then-before_epoch c = search pentad_before

pub returns-then-out_of_scope : goal.returns-then-out_of_scope
returns-then-out_of_scope c = search pentad_outside

pub returns : goal.returns
returns c = search pentad_inside
