use mathlib.Core.Path.{sym, ◌∙◌}
use Rattle.reckoning.proofs.ToldCases.{number_not_0}
use Rattle.citation.proofs.TenBytes.{put_true, put_false}
use Rattle.conversion.proofs.Ends.{refused, no_room, answered, written}
use Rattle.conversion.proofs.chiselbrow_convert.Goals as goal

pub returns-in-Err : goal.returns-in-Err
returns-in-Err c =
    let end = refused _ c.args.output.now c.in-Err.ensures (number_not_0 _) in
    record { value = c.in_answer.ensures ∙ end.answer; output_after = end.output }

pub raised-requires : goal.raised-requires
raised-requires c = sym c.in_default.ensures

pub returns-then-put : goal.returns-then-put
returns-then-put c =
    let before = c.args.output.now in
    let none = sym c.in_default.ensures in
    let there = put_true before _ (sym c.put.ensures.value ∙ c.if-put.true) in
    record {
      value = answered _ before none there.0;
      output_after = c.put.ensures.output_after ∙ there.1 ∙ written _ before none there.0 c.raised.ensures;
    }

pub returns : goal.returns
returns c =
    let before = c.args.output.now in
    let none = sym c.in_default.ensures in
    let short = put_false before _ (sym c.put.ensures.value ∙ c.if-put.false) in
    let end = no_room _ before none short.0 in
    record { value = c.in_answer-2.ensures ∙ end.answer; output_after = c.put.ensures.output_after ∙ short.1 ∙ end.output }
