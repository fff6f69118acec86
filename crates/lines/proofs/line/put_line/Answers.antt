use mathlib.Core.Path.{refl}
use native.Mathlib.Omega.{arith}
use Rattle.reckoning.proofs.ToldCases.{number_not_0}
use Rattle.lines.proofs.Lines.{wrote_refused, wrote_accepted}
use Rattle.lines.proofs.line.put_line.Goals as goal

pub returns-in-Ok : goal.returns-in-Ok
returns-in-Ok c = (wrote_accepted _ c.in-Ok.ensures refl c.put_day.ensures.0, omega arith)

pub returns-in-Err : goal.returns-in-Err
returns-in-Err c = (wrote_refused _ c.in-Err.ensures (number_not_0 _) c.put_refusal.ensures.0, omega arith)
