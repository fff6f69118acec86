use native.Mathlib.Omega.{arith}
use Rattle.text.proofs.Putting.{has_room, put_none, put_text}
use Rattle.pages.proofs.Ending.{wrote_or_refused}
use Rattle.pages.proofs.pentads_page.Goals as goal

pub returns-then-is_short : goal.returns-then-is_short
returns-then-is_short c = put_none c.is_short.ensures c.if-is_short.true

pub page-end-requires : goal.page-end-requires
page-end-requires c = search has_room

pub returns : goal.returns
returns c = put_text c.is_short.ensures c.if-is_short.false
    (wrote_or_refused _ _ c.page-end.ensures c.or_refused.ensures (omega arith) (has_room _ _ c.is_short.ensures c.if-is_short.false))
