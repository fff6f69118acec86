use mathlib.Core.Path.{refl}
use Rattle.std.proofs.lemmas.Result.{err_from_is_err_and}
use Rattle.reckoning.proofs.ToldCases.{number_not_0}
use Rattle.pages.proofs.Ending.{ends_written}
use Rattle.pages.proofs.YearAsked.{year_in_scope, printable, days_given, days_within, sheet_given}
use Rattle.pages.proofs.PageText.{page_refused, page_answered}
use Rattle.pages.proofs.whole.put.Goals as goal

pub returns-in_err-months : goal.returns-in_err-months
returns-in_err-months c =
    let p = err_from_is_err_and c.from_residual.result c.from_residual.ensures.1 in
    rw (p.1, p.2) (refl, page_refused _ _ c.in_err-months.ensures (number_not_0 _))

-- The year is in scope, so that its days and its sheet are not refused.
pub returns-in_err-days : goal.returns-in_err-days
returns-in_err-days c =
    let scope = year_in_scope c.args.system c.args.year c.in_ok-months.ensures refl in
    absurd (number_not_0 _ (days_given _ _ scope c.in_err-days.ensures))

pub returns-in_err-sheet : goal.returns-in_err-sheet
returns-in_err-sheet c =
    let scope = year_in_scope c.args.system c.args.year c.in_ok-months.ensures refl in
    absurd (number_not_0 _ (sheet_given _ _ scope c.in_err-sheet.ensures))

pub year_lines-requires : goal.year_lines-requires
year_lines-requires c = (
  c.requires,
  year_in_scope _ _ c.in_ok-months.ensures refl,
  printable _ _ c.in_ok-months.ensures refl,
  days_within _ _ c.in_ok-days.ensures,
)

pub returns : goal.returns
returns c =
    ends_written _ _ _ _ _ c.year_lines.ensures (page_answered _ _ c.in_ok-months.ensures refl c.in_ok-days.ensures c.in_ok-sheet.ensures)
