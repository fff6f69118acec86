-- The line of a place from its pieces.
use Prim.Native.Nat.{ℕ, ◌+◌, ◌-◌, ◌^◌, ◌≤◌, ◌<◌}
use mathlib.Core.Path.{◌≡◌, subst, sym, ap, ◌∙◌}
use mathlib.Core.List.{List, [], ◌∷◌, ◌++◌}
use native.Mathlib.Omega.{arith}
use lib.IntN.{ℤ, nat_abs}
use lib.ListN.{length}
use borrow.Author.Tests.{lt-ltb, le-ltb}
use mir.Syntax.{w64}
use mir.Val.{to_z, of_z}
use Rattle.reckoning.specs.Answers.{YearAnswer}
use Rattle.reckoning.specs.YearValue.{head_in, number_in, leap_in}
use Rattle.comparison.specs.declared.data.Difference.{Difference}
use Rattle.comparison.specs.declared.data.Difference.TheVariants.{Days, FirstLacks, SecondLacks}
use Rattle.comparison.specs.declared.data.Listed.{Listed}
use Rattle.text.specs.Piece.{word, field, month, numbered}
use Rattle.text.specs.Put.{Put}
use Rattle.text.specs.Wrote.{Wrote}
use Rattle.text.proofs.Writing.{wrote_as, wrote_then}
use Rattle.text.proofs.Putting.{Puts, put_wrote}
use Rattle.comparison_pages.specs.Printable.{SmallDays}
use Rattle.comparison_pages.specs.ComparisonPage.{month_text, month_texts, days_text, difference_text, line_end, place_line}
use Rattle.comparison_pages.proofs.DaysText.{is_stored}

-- A month, or none.
module _ {b a : List ℕ} {at e rooms : ℕ} (months : YearAnswer) (i : ℕ) where
  pub put_no_month : months.count ≤ i → Puts b at rooms (word (32 ∷ 45 ∷ 32 ∷ 45 ∷ [])) a e
      → Puts b at rooms (month_text months i) a e
  unfolding month_text
  put_no_month h w = simp (le-ltb i months.count h) w

  pub put_a_month : i < months.count
      → Puts b at rooms (month (number_in months i) (leap_in months i) ++ field (head_in months i)) a e
      → Puts b at rooms (month_text months i) a e
  unfolding month_text
  put_a_month h w = simp (lt-ltb i months.count h) w

pub wrote_both : {b m a : List ℕ} {at p e : ℕ} (first second : YearAnswer) (i : ℕ) → Wrote b at (month_text first i) m p
    → Wrote m p (month_text second i) a e → Wrote b at (month_texts first second i) a e
unfolding month_texts
wrote_both first second i w v = wrote_then w v

-- A difference by its case.
module _ {difference : Difference} {days : ℤ} (is : difference ≡ Days days) (small : SmallDays difference) where
  small_here : nat_abs days < 2 ^ 32
  small_here = subst SmallDays is small

  pub days_small : nat_abs (to_z w64 (of_z w64 days)) < 2 ^ 32
  days_small = subst (λ z. nat_abs z < 2 ^ 32) (sym (is_stored days small_here)) small_here

  pub wrote_days : {b a : List ℕ} {at e : ℕ} → Wrote b at (days_text (to_z w64 (of_z w64 days))) a e
      → Wrote b at (difference_text difference) a e
  unfolding difference_text
  wrote_days w = wrote_as (ap days_text (is_stored days small_here) ∙ ap difference_text (sym is)) w

module _ {b a : List ℕ} {at e rooms : ℕ} {difference : Difference} where
  pub put_first_lacks : difference ≡ FirstLacks → Puts b at rooms (word (32 ∷ 102 ∷ 105 ∷ 114 ∷ 115 ∷ 116 ∷ [])) a e
      → Puts b at rooms (difference_text difference) a e
  unfolding difference_text
  put_first_lacks is w = subst (λ d. Puts b at rooms (difference_text d) a e) (sym is) w

  pub put_second_lacks : difference ≡ SecondLacks
      → Puts b at rooms (word (32 ∷ 115 ∷ 101 ∷ 99 ∷ 111 ∷ 110 ∷ 100 ∷ [])) a e
      → Puts b at rooms (difference_text difference) a e
  unfolding difference_text
  put_second_lacks is w = subst (λ d. Puts b at rooms (difference_text d) a e) (sym is) w

pub wrote_line_end : {b m a : List ℕ} {at p e : ℕ} (difference : Difference) → Wrote b at (difference_text difference) m p
    → p ≤ at + 12
    → at + 13 ≤ length b
    → Put m p 1 (word (10 ∷ [])) a e
    → Wrote b at (line_end difference) a e
unfolding line_end
wrote_line_end difference w near room last = wrote_then w (put_wrote last (omega (arith, w.same_length)))

-- The line of a place.
pub wrote_place : {b m₁ m₂ a : List ℕ} {at p₁ p₂ e : ℕ} (first second : YearAnswer) (listed : Listed)
    → Put b at 16 (numbered (112 ∷ 108 ∷ 97 ∷ 99 ∷ 101 ∷ []) listed.place) m₁ p₁
    → at + 75 ≤ length b
    → Wrote m₁ p₁ (month_texts first second (listed.place - 1)) m₂ p₂
    → Wrote m₂ p₂ (line_end listed.difference) a e
    → Wrote b at (place_line first second listed) a e
unfolding place_line
wrote_place first second listed number room months end =
    wrote_then (put_wrote number (omega arith)) (wrote_then months end)
