use mathlib.Core.Path.{ap, sym, ◌∙◌}
use borrow.Author.Tests.{eqb-true, eqb-false}
use Rattle.reckoning.specs.RefusalNumbers.{KIND}
use Rattle.conversion.specs.Told.{told_left}
use Rattle.conversion.proofs.Ends.{told_err, left_with_lem, left_another}
use Rattle.conversion.proofs.left_with.Goals as goal

pub returns-then-is_another : goal.returns-then-is_another
returns-then-is_another c = left_another _ (eqb-true _ KIND (sym c.is_another.ensures ∙ c.if-is_another.true))

pub returns : goal.returns
returns c =
    let not_another = eqb-false _ KIND (sym c.is_another.ensures ∙ c.if-is_another.false) in
    ap told_left c.err.ensures.value ∙ told_err _ ∙ c.convertible.ensures ∙ left_with_lem _ not_another
