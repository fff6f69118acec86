-- What is told with a refusal: the leap month of the year cited with LEAP, and nothing otherwise.
use Prim.Native.Nat.{ℕ}
use mathlib.Core.Path.{◌≡◌, refl, subst, ap, sym, ◌∙◌}
use mathlib.Core.Logic.{inr, ⊎_elim}
use mathlib.Core.List.{List}
use native.Mathlib.Omega.{arith}
use Rattle.calendar.specs.Year.{LeapNumber}
use Rattle.calendar.proofs.Rising.{by_order}
use Rattle.reckoning.specs.RefusalNumbers.{LEAP}
use Rattle.citation.specs.Answers.{JudgementAnswer}
use Rattle.citation.specs.DayCited.{constants_in, elapsed_in}
use Rattle.citation.specs.CitationRefusals.{citation_rows, Tells}
use Rattle.citation.specs.Store.{judge_of, refusal_of, told_of}
use Rattle.citation.proofs.JudgementCases.{by_equal}
use Rattle.citation.proofs.JudgedByKind.{Judged}
use Rattle.citation.proofs.FirstRefusal.{judged}
use Rattle.citation.proofs.Storing.{refusal_kept, refusal_output, refusal_none}

module _ (s : List ℕ) where
  judgement_tells : Tells s (judge_of s).refusal (told_of s)
  judgement_tells = go (judged s)
    where
      go : Judged (citation_rows s) s (judge_of s) → Tells s (judge_of s).refusal (told_of s)
      go (Judged.refused number told some tells e rows) = subst (λ j. Tells s j.refusal j.told) (sym e) tells
      go (Judged.accepted z nothing rows kept) = inr (λ e. omega arith, nothing)

  pub leap_told : (judge_of s).refusal ≡ LEAP → LeapNumber (constants_in s) (elapsed_in s) (told_of s)
  leap_told e = ⊎_elim (λ t. t.1) (λ t. absurd (t.0 e)) judgement_tells

  pub nothing_told : {j : JudgementAnswer} → j ≡ judge_of s → (j.refusal ≡ LEAP → ⊥) → told_of s ≡ 0
  nothing_told e other =
      ⊎_elim (λ t. absurd (other (ap (λ j. j.refusal) e ∙ t.0))) (λ t. t.1) judgement_tells

  -- So does the storing step, whatever the output.
  pub told_rightly : (room : ℕ) → Tells s (refusal_of s room) (told_of s)
  told_rightly room =
      by_equal (judge_of s).refusal 0
      (λ z.
      inr (
        λ e.
            by_order room 10
            (λ h. omega (arith, refusal_output s room (judge_of s) refl z h))
            (λ h. omega (arith, refusal_none s room (judge_of s) refl z h)),
        nothing_told refl (λ e. omega arith),
      ))
      (λ some. subst (λ number. Tells s number (told_of s)) (sym (refusal_kept s room (judge_of s) refl some)) judgement_tells)
