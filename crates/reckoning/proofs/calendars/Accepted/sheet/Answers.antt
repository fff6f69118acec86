use mathlib.Core.Path.{ap, ◌∙◌, subst, sym}
use Prim.Native.Nat.{◌≤◌}
use Rattle.reckoning.specs.Filled.{filled}
use Rattle.reckoning.specs.Requests.{sheet_in, name_at, no_names}
use Rattle.reckoning.proofs.RegisterLaws.{register_length_most}
use Rattle.reckoning.proofs.calendars.Accepted.sheet.Goals as goal

pub names_from-names-requires : goal.names_from-names-requires
names_from-names-requires c =
    let asked = c.args.self in
    let most = register_length_most _ _ (asked.calendar.fits.in_register asked.year asked.in_scope) in
    subst (λ d. d.length ≤ 384) (sym c.days-days.ensures) most

pub returns : goal.returns
unfolding sheet_in
returns c =
    let days = c.days-days.ensures in
    let names = c.names_from-names.ensures ∙ ap (λ d. filled (name_at d.head.0) no_names d.length) days in
    λ j. record { refusal = 0; names = names j }
