use Rattle.text.proofs.Putting.{has_room, put_none, put_text}
use Rattle.text.proofs.line.Goals as goal

pub returns-then-lacks_line : goal.returns-then-lacks_line
returns-then-lacks_line c = search put_none

pub line-requires : goal.line-requires
line-requires c = search has_room

pub returns : goal.returns
returns c = search put_text
