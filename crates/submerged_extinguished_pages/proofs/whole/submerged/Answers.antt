use mathlib.Core.Path.{refl, sym, ap}
use native.Mathlib.Omega.{arith}
use Rattle.reckoning.proofs.ToldCases.{number_not_0}
use Rattle.text.proofs.Putting.{all_put, put_number}
use Rattle.submerged_extinguished_pages.proofs.PageText.{put_refused, wrote_page}
use Rattle.submerged_extinguished_pages.proofs.whole.submerged.Goals as goal

pub returns-in-Err : goal.returns-in-Err
returns-in-Err c =
    all_put {rooms = 1024}
    (put_refused _ _ _ _ (ap (λ v. v.refusal) c.in-Err.ensures.0) (number_not_0 c.in-Err.refusal) (put_number c.number.ensures c.refused.ensures refl))
    (omega arith)

pub qi_lines-requires : goal.qi_lines-requires
qi_lines-requires c = (omega (arith, c.title-at.ensures.near), sym (ap (λ v. v.refusal) c.in-Ok.ensures.0))

pub returns-in-Ok : goal.returns-in-Ok
returns-in-Ok c = (
  wrote_page _ _ _ _ (ap (λ v. v.refusal) c.in-Ok.ensures.0) refl c.title-at.ensures (omega arith) c.qi_lines.ensures.0,
  omega arith,
)
