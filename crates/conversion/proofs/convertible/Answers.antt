use mathlib.Core.Path.{sym, ◌∙◌}
use borrow.Author.Tests.{eqb-true}
use Rattle.conversion.proofs.convertible.Goals as goal

pub returns-then-is_convertible : goal.returns-then-is_convertible
returns-then-is_convertible c = sym (eqb-true _ 0 (sym c.is_convertible.ensures ∙ c.if-is_convertible.true))

pub refusal-requires : goal.refusal-requires
refusal-requires c = sym c.is_convertible.ensures ∙ c.if-is_convertible.false
