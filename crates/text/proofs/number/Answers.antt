use borrow.Author.Rules.{rules}
use Rattle.text.proofs.Putting.{put_by}
use Rattle.text.proofs.number.Goals as goal

pub returns : goal.returns
returns c = put_by c.with_room.ensures.short c.with_room.ensures.put (λ before after is room p. search rules)
