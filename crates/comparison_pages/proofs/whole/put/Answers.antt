use mathlib.Core.Path.{◌≡◌, refl, subst}
use native.Mathlib.Omega.{arith}
use borrow.Author.Rules.{rules}
use Rattle.reckoning.proofs.ToldCases.{number_not_0}
use Rattle.reckoning.specs.Told.{told_year}
use Rattle.reckoning.specs.Requests.{year_of}
use Rattle.text.proofs.Putting.{all_put, put_last}
use Rattle.comparison_pages.proofs.PageText.{put_refused, wrote_page, wrote_page_alone}
use Rattle.comparison_pages.proofs.PlacesTold.{printable, first_there, second_there}
use Rattle.comparison_pages.proofs.whole.put.Goals as goal

pub returns-in-Err : goal.returns-in-Err
returns-in-Err c =
    let line = put_last c.refused.ensures refl in
    all_put (put_refused _ _ _ c.in-Err.ensures.0 c.number.ensures (number_not_0 _) line) (omega arith)

pub returns-then-count-eq0 : goal.returns-then-count-eq0
returns-then-count-eq0 c =
    let line = c.compare_line-at.ensures in
    (wrote_page_alone _ _ _ c.in-Ok.ensures.0 refl c.if-count-eq0.true line.0, omega arith)

pub place_lines-requires : goal.place_lines-requires
place_lines-requires c = (search rules, printable _ _ _ c.in-Ok.ensures.0 refl)

pub unwrap-of_first-requires : goal.unwrap-of_first-requires
unwrap-of_first-requires c = first_there _ _ _ c.in-Ok.ensures.0 refl c.year.result c.year.ensures

pub unwrap-of_second-requires : goal.unwrap-of_second-requires
unwrap-of_second-requires c = second_there _ _ _ c.in-Ok.ensures.0 refl c.year-2.result c.year-2.ensures

pub returns : goal.returns
returns c =
    let line = c.compare_line-at.ensures in
    let lines = c.place_lines.ensures in
    let of_first = subst (λ r. told_year r ≡ year_of c.args.first c.args.year) c.unwrap-of_first.ensures c.year.ensures in
    let of_second = subst (λ r. told_year r ≡ year_of c.args.second c.args.year) c.unwrap-of_second.ensures c.year-2.ensures in
    (wrote_page _ _ _ c.in-Ok.ensures.0 refl of_first of_second line.0 lines.0, omega arith)
