use mathlib.Core.Path.{sym, ◌∙◌}
use native.Mathlib.Omega.{arith}
use borrow.Author.Tests.{eqb-true, eqb-false}
use Rattle.std.proofs.lemmas.Result.{err_from_is_err_and}
use Rattle.reckoning.specs.RefusalNumbers.{KIND}
use Rattle.reckoning.proofs.ToldCases.{number_not_0}
use Rattle.conversion.proofs.Ends.{renewed_in_place, renewed_left, left_with_lem, left_another}
use Rattle.conversion.proofs.renew.Goals as goal

pub returns-then-is_another : goal.returns-then-is_another
returns-then-is_another c =
    let another = eqb-true _ KIND (sym c.is_another.ensures ∙ c.if-is_another.true) in
    record {
      value = left_another _ another;
      cited_after = renewed_left _ (λ z. omega (arith, another));
    }

pub returns-in_err-convertible : goal.returns-in_err-convertible
returns-in_err-convertible c =
    let p = err_from_is_err_and c.from_residual.result c.from_residual.ensures.1 in
    let is = c.in_err-convertible.ensures in
    let not_another = eqb-false _ KIND (sym c.is_another.ensures ∙ c.if-is_another.false) in
    rw (p.1, p.2) (record {
      value = is ∙ left_with_lem _ not_another;
      cited_after = renewed_left _ (λ z. number_not_0 _ (is ∙ z));
    })

pub raised-record-requires : goal.raised-record-requires
raised-record-requires c = sym c.in_ok-convertible.ensures

pub returns : goal.returns
returns c =
    let none = sym c.in_ok-convertible.ensures in
    record {
      value = sym none ∙ left_with_lem _ (λ e. omega arith);
      cited_after = c.put.ensures.output_after ∙ renewed_in_place _ none c.raised-record.ensures;
    }
