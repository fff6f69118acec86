use mathlib.Core.Path.{ap}
use native.Mathlib.Omega.{arith}
use Rattle.std.proofs.Common.{rules}
use Rattle.reckoning.specs.RefusalNumbers.{number_of}
use Rattle.reckoning.proofs.ToldCases.{leap_tells}
use Rattle.text.proofs.Putting.{all_put, put_last}
use Rattle.lines.proofs.Lines.{put_telling, put_plain}
use Rattle.lines.proofs.line.put_refusal.Goals as goal

pub returns-in-NotLeap : goal.returns-in-NotLeap
returns-in-NotLeap c =
    let leap = ap number_of c.in-NotLeap.is in
    all_put (search (put_telling, put_last, leap)) (omega arith)

pub returns-in_default : goal.returns-in_default
returns-in_default c =
    let other = leap_tells c.args.refusal (λ month is. search rules) in
    all_put (search (put_plain, put_last, other)) (omega arith)
