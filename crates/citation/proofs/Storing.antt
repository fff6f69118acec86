-- The three ways in which a storing ends.
use Prim.Native.Nat.{ℕ, ◌+◌, ◌*◌, ◌^◌, ◌≤◌, ◌<◌}
use mathlib.Core.Path.{◌≡◌, ap, sym, ◌∙◌}
use mathlib.Core.Bool.{Bool, false, cond}
use mathlib.Core.List.{List, ◌++◌}
use native.Mathlib.Omega.{arith}
use lib.Dec.{eqb, ltb}
use lib.ListN.{length, drop}
use borrow.Author.Tests.{eq-eqb, ne_eqb, lt-ltb, le-ltb}
use Rattle.reckoning.specs.RefusalNumbers.{OUTPUT}
use Rattle.citation.specs.Answers.{JudgementAnswer}
use Rattle.citation.specs.Store.{judge_of, refusal_of, told_of, answer_of, stored_into}

-- The refusal number.
module _ (s : List ℕ) (room : ℕ) (j : JudgementAnswer) (e : j ≡ judge_of s) where
  refusal_is : refusal_of s room ≡ cond (eqb j.refusal 0) (cond (ltb room 10) OUTPUT 0) j.refusal
  unfolding refusal_of
  refusal_is = ap (λ x. cond (eqb x.refusal 0) (cond (ltb room 10) OUTPUT 0) x.refusal) (sym e)

  pub refusal_kept : (j.refusal ≡ 0 → ⊥) → refusal_of s room ≡ j.refusal
  refusal_kept h = refusal_is ∙ simp (ne_eqb j.refusal 0 h)

  pub refusal_output : j.refusal ≡ 0 → room < 10 → refusal_of s room ≡ OUTPUT
  refusal_output h l = refusal_is ∙ simp (eq-eqb j.refusal 0 h, lt-ltb room 10 l)

  pub refusal_none : j.refusal ≡ 0 → 10 ≤ room → refusal_of s room ≡ 0
  refusal_none h l = refusal_is ∙ simp (eq-eqb j.refusal 0 h, le-ltb room 10 l)

second_of : {A : Type 0} (b : Bool) (first second : A) → b ≡ false → second ≡ cond b first second
second_of b first second e = ap (λ x. cond x first second) (sym e)

-- Refused, the answer is the number times 2^32 with what it tells times 2^40, and no byte changes.
module _ (s : List ℕ) (number : ℕ) (some : number ≡ 0 → ⊥) where
  pub answer_refused : (room told : ℕ) → refusal_of s room ≡ number → told_of s ≡ told
      → number * 2 ^ 32 + told * 2 ^ 40 ≡ answer_of s room
  unfolding answer_of
  answer_refused room told r t = rw (r, t) (simp (ne_eqb number 0 some) (omega arith))

  pub output_refused : (before : List ℕ) → refusal_of s (length before) ≡ number → before ≡ stored_into s before
  unfolding stored_into
  output_refused before r =
      let refused = ne_eqb (refusal_of s (length before)) 0 (λ z. some (sym r ∙ z)) in
      second_of _ _ before refused

-- Accepted, the answer is the day, and the record stands in the first ten bytes.
module _ (s : List ℕ) (j : JudgementAnswer) (e : j ≡ judge_of s) where
  pub answer_accepted : (room : ℕ) → refusal_of s room ≡ 0 → told_of s ≡ 0 → j.day.0 ≡ answer_of s room
  unfolding answer_of
  answer_accepted room r t = rw (r, t) (omega (arith, ap (λ x. x.day.0) e))

  pub output_accepted : (before : List ℕ) → refusal_of s (length before) ≡ 0 → j.stored ++ drop 10 before ≡ stored_into s before
  unfolding stored_into
  output_accepted before r = rw r (ap (λ x. x.stored ++ drop 10 before) e)
