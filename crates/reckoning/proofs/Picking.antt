-- The constants that a system's number picks, and the month that is found by them.
use Prim.Native.Nat.{ℕ}
use mathlib.Core.Path.{◌≡◌, ap, sym, ◌∙◌}
use mathlib.Core.Bool.{Bool, false, cond}
use Rattle.calendar.specs.declared.data.Constants.{Constants}
use Rattle.calendar.specs.Systems.{last_system, constants_of}
use Rattle.reckoning.specs.Scope.{SystemInScope}
use Rattle.reckoning.specs.ComputedRefusals.{year_refusal, no_such_system}
use Rattle.reckoning.specs.RefusalNumbers.{SYSTEM}
use Rattle.reckoning.specs.Requests.{answer_unless, answer_of_year, month_silent, no_month}
use Rattle.reckoning.specs.Answers.{MonthAnswer}
use Rattle.reckoning.proofs.RefusalCases.{outside_of}
use Rattle.reckoning.proofs.AnswerUnless.{system_then_year}

-- A month of a system's year: found by the constants of the system's number, or refused.
module _ (system year number leap : ℕ) where
  abbrev found_in : Constants → MonthAnswer
  found_in c = answer_of_year c year (month_silent number leap) no_month

  abbrev found : MonthAnswer
  found = answer_unless (year_refusal system year) system year (month_silent number leap) no_month

  decided : {wrong : Bool} {v : MonthAnswer} → no_such_system system ≡ wrong → v ≡ cond wrong (no_month SYSTEM) (found_in (constants_of system)) → v ≡ found
  decided known e =
      e
      ∙ sym (ap (λ w. cond w (no_month SYSTEM) (found_in (constants_of system))) known)
      ∙ system_then_year (month_silent number leap) no_month system year

  pub found_by_number : (k : ℕ) → no_such_system k ≡ false → system ≡ k → {c : Constants} → c ≡ constants_of k → {v : MonthAnswer} → v ≡ found_in c
      → v ≡ found
  found_by_number k there e is given =
      decided (ap no_such_system e ∙ there) (given ∙ ap found_in (is ∙ ap constants_of (sym e)))

  pub found_by_none : (SystemInScope system → ⊥) → {v : MonthAnswer} → v ≡ no_month SYSTEM → v ≡ found
  found_by_none none e = decided (outside_of 1 last_system system none) e
