use mathlib.Core.Path.{refl, ap, sym, ◌∙◌}
use native.Mathlib.Omega.{arith}
use Rattle.reckoning.specs.RefusalNumbers.{OUTPUT}
use Rattle.reckoning.proofs.ToldCases.{number_not_0}
use Rattle.citation.proofs.TenBytes.{put_true, put_false}
use Rattle.citation.proofs.LeapMonthTold.{nothing_told}
use Rattle.citation.proofs.Storing.{refusal_kept, refusal_output, refusal_none}
use Rattle.citation.proofs.Storing.{answer_refused, output_refused, answer_accepted, output_accepted}
use Rattle.citation.proofs.store.chiselbrow_store.Goals as goal

pub returns-then-put : goal.returns-then-put
returns-then-put c =
    let output = c.args.output.now in
    let j = c.in-Ok.ensures in
    let nothing = nothing_told _ j (λ e. omega arith) in
    let room = put_true output _ (sym c.put.ensures.value ∙ c.if-put.true) in
    let r = refusal_none _ _ _ j refl room.0 in
    record { value = answer_accepted _ _ j _ r nothing; output_after = c.put.ensures.output_after ∙ room.1 ∙ output_accepted _ _ j output r }

pub returns-else-put : goal.returns-else-put
returns-else-put c =
    let output = c.args.output.now in
    let j = c.in-Ok.ensures in
    let nothing = nothing_told _ j (λ e. omega arith) in
    let short = put_false output _ (sym c.put.ensures.value ∙ c.if-put.false) in
    let r = refusal_output _ _ _ j refl short.0 in
    record {
      value = c.refused.ensures ∙ answer_refused _ OUTPUT (λ z. omega arith) _ 0 r nothing;
      output_after = c.put.ensures.output_after ∙ short.1 ∙ output_refused _ OUTPUT (λ z. omega arith) output r;
    }

pub returns-in-Err : goal.returns-in-Err
returns-in-Err c =
    let j = c.in-Err.ensures in
    let some = number_not_0 _ in
    let r = refusal_kept _ _ _ j some in
    record {
      value = c.refused-in-Err.ensures ∙ answer_refused _ _ some _ _ r (sym (ap (λ x. x.told) j));
      output_after = output_refused _ _ some c.args.output.now r;
    }
