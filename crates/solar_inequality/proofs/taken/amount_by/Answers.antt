use Rattle.solar_inequality.proofs.LimitLaws.{amount_fits}
use Rattle.solar_inequality.proofs.taken.amount_by.Goals as goal

pub overflow_cast-result : goal.overflow_cast-result
overflow_cast-result c = search amount_fits
