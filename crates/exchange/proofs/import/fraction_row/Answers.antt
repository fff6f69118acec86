use mathlib.Core.Path.{sym, ◌∙◌}
use Rattle.exchange.proofs.Importing.{not_a_number}
use Rattle.exchange.proofs.import.fraction_row.Goals as goal

pub returns : goal.returns
returns c =
    not_a_number c.args.in_day c.args.row.now c.time-pattern.ensures
    (sym c.is_number.ensures ∙ c.if-is_number.false)
