use Prim.Native.Nat.{◌+◌}
use mathlib.Core.Path.{sym, ap, ◌∙◌}
use Rattle.reckoning.specs.Requests.{month_at}
use Rattle.reckoning.proofs.MonthRequest.{number_wrong, mark_wrong, ordinary_month, leap_month, leap_lacks}
use Rattle.reckoning.proofs.MonthRequest.{ordinary_fits, ordinary_in_register, next_fits, next_in_register, none_follows, one_follows}
use Rattle.reckoning.proofs.calendars.Calendar.month_of_year.Goals as goal

pub returns-then-outside : goal.returns-then-outside
returns-then-outside c = number_wrong _ _ _ _ 0 (sym c.outside.ensures ∙ c.if-outside.true)

pub month_at-requires : goal.month_at-requires
month_at-requires c = search (ordinary_fits, ordinary_in_register)

pub returns-then-leap-eq0 : goal.returns-then-leap-eq0
returns-then-leap-eq0 c =
    let number_inside = sym c.outside.ensures ∙ c.if-outside.false in
    c.month_at.ensures
    ∙ ap (λ m. month_at c.args.self.c m.month) c.month_of_qi-m.ensures
    ∙ ordinary_month _ _ _ _ 0 number_inside c.if-leap-eq0.true

pub returns-then-outside-2 : goal.returns-then-outside-2
returns-then-outside-2 c =
    mark_wrong _ _ _ _ 0 (sym c.outside.ensures ∙ c.if-outside.false) (sym c.outside-2.ensures ∙ c.if-outside-2.true)

pub month_after-next-requires : goal.month_after-next-requires
month_after-next-requires c = search ordinary_fits

pub returns-then-day_of_qi-next : goal.returns-then-day_of_qi-next
returns-then-day_of_qi-next c =
    let number_inside = sym c.outside.ensures ∙ c.if-outside.false in
    let mark_inside = sym c.outside-2.ensures ∙ c.if-outside-2.false in
    leap_lacks _ _ _ _ 0 number_inside mark_inside c.if-leap-eq0.false (search none_follows)

pub month_at-requires-2 : goal.month_at-requires-2
month_at-requires-2 c = search (next_fits, next_in_register)

pub returns : goal.returns
returns c =
    let number_inside = sym c.outside.ensures ∙ c.if-outside.false in
    let mark_inside = sym c.outside-2.ensures ∙ c.if-outside-2.false in
    c.month_at-2.ensures
    ∙ ap (λ m. month_at c.args.self.c m.month) c.month_after-next.ensures
    ∙ ap (λ m. month_at c.args.self.c (m.month + 1)) c.month_of_qi-m.ensures
    ∙ leap_month _ _ _ _ 0 number_inside mark_inside c.if-leap-eq0.false (search one_follows)
