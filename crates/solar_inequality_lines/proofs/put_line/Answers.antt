use mathlib.Core.Path.{refl}
use native.Mathlib.Omega.{arith}
use Rattle.reckoning.proofs.ToldCases.{number_not_0}
use Rattle.text.proofs.Putting.{all_put, put_number}
use Rattle.solar_inequality_lines.proofs.LineText.{put_refused, wrote_answered}
use Rattle.solar_inequality_lines.proofs.put_line.Goals as goal

pub returns-in-Err : goal.returns-in-Err
returns-in-Err c =
    all_put {rooms = 22}
    (put_refused c.args.season c.args.days c.in-Err.ensures (number_not_0 c.in-Err.refusal)
    (put_number c.number.ensures c.refused.ensures refl))
    (omega arith)

pub returns-in-Ok : goal.returns-in-Ok
returns-in-Ok c = (wrote_answered _ _ c.in-Ok.ensures refl c.put_day.ensures.0, c.put_day.ensures.1)
