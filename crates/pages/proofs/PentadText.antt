-- What is printed of pentads from its pieces.
use Prim.Native.Nat.{ℕ}
use mathlib.Core.Path.{◌≡◌, subst}
use mathlib.Core.List.{List, [], ◌∷◌, ◌++◌}
use Rattle.reckoning.specs.Answers.{MomentAnswer, PentadAnswer}
use Rattle.reckoning.specs.Requests.{pentad_of, pentad_in_force}
use Rattle.text.specs.Decimal.{decimal}
use Rattle.text.specs.Piece.{word, letter_of, title, line, refused_line}
use Rattle.text.proofs.Putting.{Puts}
use Rattle.pages.proofs.Ending.{told_refused, told_answered}
use Rattle.pages.specs.StepLines.{step_lines}
use Rattle.pages.specs.PentadPages.{pentads_word, pentad_word, pentads_page, in_force_line, pentad_line}

module _ {b a : List ℕ} {at e rooms : ℕ} where
  pub put_in_force_line : {letter : ℕ} (day system n pentad : ℕ) → letter ≡ letter_of system
      → Puts b at rooms (decimal day ++ (word (32 ∷ letter ∷ []) ++ line [] (n ∷ pentad ∷ []))) a e
      → Puts b at rooms (in_force_line day system n pentad) a e
  unfolding in_force_line
  put_in_force_line day system n pentad is w =
      subst (λ l. Puts b at rooms (decimal day ++ (word (32 ∷ l ∷ []) ++ line [] (n ∷ pentad ∷ []))) a e) is w

-- The page of a year's pentads: refused and answered.
abbrev told : ℕ → ℕ → MomentAnswer → List ℕ
told system n v = title pentads_word system n ++ step_lines pentad_word (pentad_of system n) 72

module _ (system n : ℕ) {first : MomentAnswer} (is : first ≡ pentad_of system n 0) where
  pub pentads_refused : (first.refusal ≡ 0 → ⊥) → pentads_page system n ≡ refused_line first.refusal
  unfolding pentads_page
  pentads_refused some = told_refused (λ v. v.refusal) (told system n) is some

  pub pentads_answered : first.refusal ≡ 0
      → title pentads_word system n ++ step_lines pentad_word (pentad_of system n) 72 ≡ pentads_page system n
  unfolding pentads_page
  pentads_answered none = told_answered (λ v. v.refusal) (told system n) is none

-- The line of a day: refused and answered.
module _ (system day : ℕ) {found : PentadAnswer} (is : found ≡ pentad_in_force system day) where
  pub pentad_refused : (found.refusal ≡ 0 → ⊥) → pentad_line system day ≡ refused_line found.refusal
  unfolding pentad_line
  pentad_refused some = told_refused (λ v. v.refusal) (λ v. in_force_line day system v.year v.pentad) is some

  pub pentad_answered : found.refusal ≡ 0 → in_force_line day system found.year found.pentad ≡ pentad_line system day
  unfolding pentad_line
  pentad_answered none = told_answered (λ v. v.refusal) (λ v. in_force_line day system v.year v.pentad) is none
