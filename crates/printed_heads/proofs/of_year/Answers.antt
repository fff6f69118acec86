use Rattle.std.proofs.Common.{◌∙◌, sym}
use Rattle.printed_heads.proofs.PageAnswers.{is_on, at_year, answers, is_silent, answered}
use Rattle.printed_heads.proofs.of_year.Goals as goal

pub returns-then-on_page : goal.returns-then-on_page
returns-then-on_page c =
    let on_page = is_on _ _ (sym c.on_page.ensures ∙ c.if-on_page.true) in
    answered _ _ (answers on_page (at_year on_page c.entry.ensures))

pub returns-else-on_page : goal.returns-else-on_page
returns-else-on_page c = answered _ _ (is_silent _ _ (sym c.on_page.ensures ∙ c.if-on_page.false))
