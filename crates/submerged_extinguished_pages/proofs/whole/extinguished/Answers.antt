use mathlib.Core.Path.{refl, ap}
use native.Mathlib.Omega.{arith}
use Rattle.reckoning.proofs.ToldCases.{number_not_0}
use Rattle.text.proofs.Putting.{all_put, put_number}
use Rattle.submerged_extinguished_pages.proofs.PageText.{put_refused, wrote_page, days_most, wrote_asked_moons}
use Rattle.submerged_extinguished_pages.proofs.whole.extinguished.Goals as goal

pub returns-in-Err : goal.returns-in-Err
returns-in-Err c =
    all_put {rooms = 1024}
    (put_refused _ _ _ _ (ap (λ v. v.refusal) c.in-Err.ensures) (number_not_0 c.in-Err.refusal) (put_number c.number.ensures c.refused.ensures refl))
    (omega arith)

pub moon_lines-requires : goal.moon_lines-requires
moon_lines-requires c = (omega arith, days_most c.args.system c.args.year c.in-Ok.ensures)

pub returns-in-Ok : goal.returns-in-Ok
returns-in-Ok c =
    let asked = c.in-Ok.ensures in (
      wrote_page _ _ _ _ (ap (λ v. v.refusal) asked) refl c.title-at.ensures (omega arith)
          (wrote_asked_moons _ _ asked c.moon_lines.ensures.0),
      omega arith,
    )
