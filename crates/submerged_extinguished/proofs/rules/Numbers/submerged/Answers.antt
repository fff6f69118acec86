use Rattle.submerged_extinguished.proofs.WordFits.{something_left, taken_fits, days_fit}
use Rattle.submerged_extinguished.proofs.rules.Numbers.submerged.Goals as goal

pub overflow_mul-left-2 : goal.overflow_mul-left-2
overflow_mul-left-2 c = search taken_fits

pub overflow_sub-left : goal.overflow_sub-left
overflow_sub-left c = search something_left

pub overflow_cast-result : goal.overflow_cast-result
overflow_cast-result c = search days_fit
