-- The page of a comparison from its lines.
use Prim.Native.Nat.{ℕ, ◌+◌, ◌≤◌, ◌<◌}
use mathlib.Core.Path.{◌≡◌, refl, subst, sym, ap, ap₂, ◌∙◌}
use mathlib.Core.List.{List, [], ◌∷◌, ◌++◌, append-nil}
use native.Mathlib.Omega.{arith}
use lib.ListN.{length, take, get_or}
use Rattle.std.proofs.lemmas.List.{get_or-take}
use Rattle.reckoning.specs.Answers.{YearAnswer}
use Rattle.reckoning.specs.Requests.{year_of}
use Rattle.comparison.specs.Answers.{ComparisonAnswer}
use Rattle.comparison.specs.Comparisons.{unused, comparison_of}
use Rattle.text.specs.Piece.{word, letter_of, year, line, refused_line, texts_up_to}
use Rattle.text.specs.Put.{Put}
use Rattle.text.specs.Wrote.{Wrote}
use Rattle.text.proofs.Writing.{wrote_as, wrote_then, wrote_one_more}
use Rattle.text.proofs.Putting.{Puts, put_wrote, put_then, put_last, put_refusal, wrote_told}
use Rattle.comparison_pages.specs.ComparisonPage.{line_start, compare_line, place_line, place_at, place_lines, comparison_page}

-- The line of what is compared.
pub put_line_start : {b m a : List ℕ} {at p e letter : ℕ} (first : ℕ) → letter ≡ letter_of first
    → Put b at 8 (word (99 ∷ 111 ∷ 109 ∷ 112 ∷ 97 ∷ 114 ∷ 101 ∷ 32 ∷ [])) m p
    → Put m p 2 (word (letter ∷ 32 ∷ [])) a e
    → Puts b at 10 (line_start first) a e
unfolding line_start
put_line_start {m = m} {a = a} {p = p} {e = e} first is w l =
    put_then w refl (put_last (subst (λ x. Put m p 2 (word (x ∷ 32 ∷ [])) a e) is l) refl)

pub wrote_compare_line : {b m₁ m₂ a : List ℕ} {at p₁ p₂ e : ℕ} (first second n places : ℕ) → Wrote b at (line_start first) m₁ p₁
    → p₁ ≤ at + 10
    → at + 34 ≤ length b
    → Put m₁ p₁ 12 (year second n) m₂ p₂
    → Put m₂ p₂ 12 (line [] (places ∷ [])) a e
    → Wrote b at (compare_line first second n places) a e
unfolding compare_line
wrote_compare_line first second n places w near room y c =
    let v = put_wrote y (omega (arith, w.same_length)) in
    wrote_then w (wrote_then v (put_wrote c (omega (arith, w.same_length, v.same_length, y.near))))

-- A place's line more.
pub wrote_more_places : {b m a : List ℕ} {at p e : ℕ} (first second : YearAnswer) (compared : ComparisonAnswer) (i : ℕ)
    → Wrote b at (texts_up_to (place_at first second compared) i) m p
    → Wrote m p (place_line first second (get_or (take compared.count compared.places) i unused)) a e
    → i < compared.count
    → Wrote b at (texts_up_to (place_at first second compared) (i + 1)) a e
wrote_more_places first second compared i w v more =
    wrote_one_more (place_at first second compared) i w
    (wrote_as (ap (place_line first second) (get_or-take compared.count compared.places i unused more)) v)

-- The whole page: of a comparison answered, and of one refused.
abbrev told : ℕ → ℕ → ℕ → ComparisonAnswer → List ℕ
told first second n v = compare_line first second n v.count ++ place_lines (year_of first n) (year_of second n) v

module _ {b a : List ℕ} {at e : ℕ} {compared : ComparisonAnswer} (first second n : ℕ) (is : compared ≡ comparison_of first second n) where
  pub put_refused : {refusal rooms : ℕ} → refusal ≡ compared.refusal → (compared.refusal ≡ 0 → ⊥)
      → Puts b at rooms (refused_line refusal) a e
      → Puts b at rooms (comparison_page first second n) a e
  unfolding comparison_page
  put_refused {rooms = rooms} number h w =
      put_refusal (λ v. v.refusal) (told first second n) is h (subst (λ r. Puts b at rooms (refused_line r) a e) number w)

  pub wrote_page : {m : List ℕ} {p : ℕ} {of_first of_second : YearAnswer} → compared.refusal ≡ 0 → of_first ≡ year_of first n → of_second ≡ year_of second n
      → Wrote b at (compare_line first second n compared.count) m p
      → Wrote m p (place_lines of_first of_second compared) a e
      → Wrote b at (comparison_page first second n) a e
  unfolding comparison_page
  wrote_page h first_is second_is w v =
      wrote_told (λ x. x.refusal) (told first second n) is h
      (wrote_then w (wrote_as (ap₂ (λ f s. place_lines f s compared) first_is second_is) v))

  pub wrote_page_alone : compared.refusal ≡ 0 → compared.count ≡ 0
      → Wrote b at (compare_line first second n compared.count) a e
      → Wrote b at (comparison_page first second n) a e
  unfolding comparison_page place_lines texts_up_to
  wrote_page_alone h none w =
      let places = place_at (year_of first n) (year_of second n) compared in
      let nothing : texts_up_to places compared.count ≡ [] = ap (texts_up_to places) none in
      let line = compare_line first second n compared.count in
      let whole : line ≡ line ++ texts_up_to places compared.count = sym (append-nil line) ∙ ap (λ t. line ++ t) (sym nothing) in
      wrote_told (λ x. x.refusal) (told first second n) is h (wrote_as whole w)
