-- The text of a signed number of days, by its sign and its size.
use Prim.Native.Nat.{ℕ, ◌^◌, ◌≤◌, ◌<◌}
use mathlib.Core.Path.{◌≡◌, refl, subst, ap, ◌∙◌}
use mathlib.Core.Bool.{true, false, true≢false}
use mathlib.Core.List.{List, [], ◌∷◌, ◌++◌}
use native.Mathlib.Omega.{arith}
use lib.IntN.{ℤ, pos, negsuc, nat_abs}
use lib.Signed.{mag, lt_z}
use borrow.Author.Tests.{ltb-true}
use mir.Syntax.{w64}
use mir.Val.{to_z, of_z}
use mir.Facts.{to_z-of_z}
use Rattle.text.specs.Decimal.{decimal}
use Rattle.text.specs.Piece.{word, field}
use Rattle.text.proofs.Putting.{Puts}
use Rattle.comparison_pages.specs.ComparisonPage.{days_text}

mag_most : (z : ℤ) → mag z ≤ nat_abs z
mag_most (pos n) = omega arith
mag_most (negsuc n) = omega arith

module _ (z : ℤ) (small : nat_abs z < 2 ^ 32) where
  abbrev pub stored : ℤ
  stored = to_z w64 (of_z w64 z)

  pub is_stored : stored ≡ z
  is_stored = to_z-of_z {w = w64} (record { sfits = omega (arith, mag_most z) })

-- As it is told.
text_of_negative : (z : ℤ) → lt_z z (pos 0) ≡ true → word (32 ∷ 45 ∷ []) ++ decimal (nat_abs z) ≡ days_text z
unfolding days_text
text_of_negative (pos n) e = absurd (omega (arith, ltb-true n 0 e))
text_of_negative (negsuc n) e = refl

text_of_other : (z : ℤ) → lt_z z (pos 0) ≡ false → field (nat_abs z) ≡ days_text z
unfolding days_text
text_of_other (pos n) e = refl
text_of_other (negsuc n) e = absurd (true≢false e)

module _ {size : ℕ} (z : ℤ) (small : nat_abs z < 2 ^ 32) (size_is : size ≡ nat_abs (to_z w64 (of_z w64 z))) where
  size_of_z : size ≡ nat_abs z
  size_of_z = size_is ∙ ap nat_abs (is_stored z small)

  module _ {b a : List ℕ} {at e rooms : ℕ} where
    pub put_negative : lt_z (stored z small) (pos 0) ≡ true → Puts b at rooms (word (32 ∷ 45 ∷ []) ++ decimal size) a e
        → Puts b at rooms (days_text z) a e
    put_negative sign w =
        subst (λ t. Puts b at rooms t a e)
        (ap (λ n. word (32 ∷ 45 ∷ []) ++ decimal n) size_of_z
        ∙ text_of_negative z (subst (λ x. lt_z x (pos 0) ≡ true) (is_stored z small) sign))
        w

    pub put_other : lt_z (stored z small) (pos 0) ≡ false → Puts b at rooms (field size) a e → Puts b at rooms (days_text z) a e
    put_other sign w =
        subst (λ t. Puts b at rooms t a e)
        (ap field size_of_z ∙ text_of_other z (subst (λ x. lt_z x (pos 0) ≡ false) (is_stored z small) sign))
        w
