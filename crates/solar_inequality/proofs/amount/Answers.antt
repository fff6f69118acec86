use Rattle.solar_inequality.proofs.Answering.{within_taken}
use Rattle.solar_inequality.proofs.amount.Goals as goal

pub amount-requires : goal.amount-requires
amount-requires c = search within_taken
