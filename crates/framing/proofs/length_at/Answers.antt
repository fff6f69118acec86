use Rattle.framing.proofs.Framed.{field_at}
use Rattle.framing.proofs.length_at.Goals as goal

pub returns : goal.returns
returns c = search field_at
