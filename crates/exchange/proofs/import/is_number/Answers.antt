use Rattle.exchange.proofs.Patterns.{not_above_infinity}
use Rattle.exchange.proofs.import.is_number.Goals as goal

pub returns : goal.returns
returns c = not_above_infinity _
