-- What the code returns, by its tests.
use Prim.Native.Nat.{ℕ, ◌≤◌, ◌<◌}
use mathlib.Core.Path.{◌≡◌, sym, ap, subst, ◌∙◌}
use borrow.Author.Tests.{lt-ltb, le-ltb}
use Rattle.reckoning.specs.RefusalNumbers.{DAY}
use Rattle.solar_inequality.specs.declared.data.Season.{Season}
use Rattle.solar_inequality.specs.declared.taken.Taken.{Taken}
use Rattle.solar_inequality.specs.Limits.{limit_of}
use Rattle.solar_inequality.specs.Answers.{taken_of, amount_taken, answer_of}
use Rattle.solar_inequality.proofs.Taking.{within}

-- The answer.
module _ (season : Season) (x : ℕ) where
  pub refused_past : 182 < x → record { refusal = DAY; amount = 0 } ≡ answer_of season x
  unfolding answer_of
  refused_past h = simp (lt-ltb 182 x h)

  pub answered_by : {taken : Taken} {amount : ℕ} → x ≤ 182 → taken ≡ taken_of season x → amount ≡ amount_taken taken
      → record { refusal = 0; amount = amount } ≡ answer_of season x
  unfolding answer_of
  answered_by {amount = amount} h is given =
      let all : amount ≡ amount_taken (taken_of season x) = given ∙ ap amount_taken is in
      simp (le-ltb 182 x h) (ap (λ a. record { refusal = 0; amount = a }) all)

  pub within_taken : {taken : Taken} → x ≤ 182 → taken ≡ taken_of season x → taken.parts ≤ (limit_of taken.season).parts
  within_taken h is = subst (λ t. t.parts ≤ (limit_of t.season).parts) (sym is) (within season x h)
