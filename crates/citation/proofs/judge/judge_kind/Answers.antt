use mathlib.Core.Logic.{inl, inr, ⊎_elim}
use mathlib.Core.Bool.{true≢false}
use mathlib.Core.Path.{◌≡◌}
use Rattle.std.proofs.lemmas.Result.{err_from_is_err_and}
use Rattle.reckoning.proofs.ToldCases.{number_not_0}
use Rattle.citation.specs.Record.{kind_of}
use Rattle.citation.proofs.JudgementCases.{kind_with_month, kind_one, kind_five}
use Rattle.citation.proofs.judge.judge_kind.Goals.{in-Date-matches, in_default}
use mathlib.Core.Path.{refl, sym, ap, ◌∙◌}
use native.Mathlib.Omega.{arith}
use Rattle.citation.specs.JudgeParts.{kind_number}
use Rattle.citation.proofs.JudgementCases.{kind_three, kind_four}
use Rattle.citation.proofs.judge.judge_kind.Goals as goal

pub returns-in-Ordinal : goal.returns-in-Ordinal
returns-in-Ordinal c =
    kind_three _ (omega arith) (sym c.requires.of_kind ∙ ap kind_number c.in-Ordinal.is) c.judge_ordinal.ensures (omega arith) (omega arith)

pub returns-in-RegisterDay : goal.returns-in-RegisterDay
returns-in-RegisterDay c =
    kind_four _ (omega arith) (sym c.requires.of_kind ∙ ap kind_number c.in-RegisterDay.is) c.judge_register_day.ensures (omega arith)

pub returns-in_err-m-in-Date : goal.returns-in_err-m-in-Date
returns-in_err-m-in-Date c =
    let p = err_from_is_err_and c.from_residual.result c.from_residual.ensures.1 in
    rw (p.1, p.2) (kind_with_month _ (omega arith) (⊎_elim (λ one. inl (sym c.requires.of_kind ∙ ap kind_number one)) (λ five. inr (sym c.requires.of_kind ∙ ap kind_number five)) c.in-Date.is) c.in_err-m-in-Date.ensures
    (number_not_0 _)
    refl
    (omega arith)
    (omega arith)
    (omega arith))

pub returns-then-matches : goal.returns-then-matches
returns-then-matches c =
    let date : kind_of c.args.s.now ≡ 1 =
    elim c.match-matches.branch [
      | in-Date-matches w ↦ sym c.requires.of_kind ∙ ap kind_number w.in-Date-matches.is
      | in_default w ↦ absurd (true≢false (sym c.if-matches.true ∙ w.matches-is))
    ] in
    kind_one _ (omega arith) date c.judge_day.ensures (omega arith) (omega arith) (omega arith) (omega arith)

pub returns-else-matches : goal.returns-else-matches
returns-else-matches c =
    let name : kind_of c.args.s.now ≡ 5 =
    elim c.match-matches.branch [
      | in-Date-matches w ↦ absurd (true≢false (sym w.matches-is ∙ c.if-matches.false))
      | in_default w ↦ ⊎_elim (λ one. absurd (w.in_default.not-Date one)) (λ five. sym c.requires.of_kind ∙ ap kind_number five) c.in-Date.is
    ] in
    kind_five _ (omega arith) name c.judge_name.ensures (omega arith) (omega arith) (omega arith) refl
