use mathlib.Core.Path.{sym, ◌∙◌}
use Rattle.lines.proofs.Lines.{put_no_ending, put_ending}
use Rattle.lines.proofs.buffer.ending.Goals as goal

pub returns-then-is_empty : goal.returns-then-is_empty
returns-then-is_empty c = put_no_ending _ _ _ (sym c.is_empty.ensures ∙ c.if-is_empty.true)

pub returns : goal.returns
returns c =
    put_ending _ (sym c.is_empty.ensures ∙ c.if-is_empty.false) c.number.ensures c.refused.ensures
