use mathlib.Core.Path.{ap}
use Rattle.bench_heads.proofs.head_reckoned.Goals as goal

pub returns-in-Ok : goal.returns-in-Ok
returns-in-Ok c = ap (λ h. h.day.0) c.in-Ok.ensures

pub returns-in-Err : goal.returns-in-Err
returns-in-Err c = ap (λ h. h.day.0) c.in-Err.ensures
