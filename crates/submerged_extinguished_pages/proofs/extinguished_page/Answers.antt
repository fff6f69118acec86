use Rattle.text.proofs.Putting.{has_room, put_none, put_text}
use Rattle.submerged_extinguished_pages.proofs.extinguished_page.Goals as goal

pub returns-then-is_short : goal.returns-then-is_short
returns-then-is_short c = put_none c.is_short.ensures c.if-is_short.true

pub extinguished-requires : goal.extinguished-requires
extinguished-requires c = search has_room

pub returns : goal.returns
returns c = search put_text
