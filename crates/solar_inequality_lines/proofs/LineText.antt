-- A line from its pieces.
use Prim.Native.Nat.{ℕ}
use mathlib.Core.Path.{◌≡◌, refl}
use Rattle.std.specs.Prelude.{Some}
use mathlib.Core.List.{List}
use Rattle.solar_inequality.specs.Records.{AmountAnswer}
use Rattle.solar_inequality.specs.declared.data.Season.{Season}
use Rattle.solar_inequality.specs.Answers.{answer_of}
use Rattle.text.specs.Decimal.{decimal}
use Rattle.text.specs.Piece.{last_field, refused_line}
use Rattle.text.specs.Put.{Put}
use Rattle.text.specs.Wrote.{Wrote}
use Rattle.text.proofs.Putting.{Puts, put_last, put_then, put_refusal, wrote_told}
use Rattle.solar_inequality_lines.specs.AmountLine.{day_line, amount_line}

module _ {b a : List ℕ} {at e : ℕ} where
  pub put_day_line : {m : List ℕ} {p : ℕ} (days amount : ℕ) → Put b at 10 (decimal days) m p
      → Put m p 12 (last_field (Some amount)) a e
      → Puts b at 22 (day_line days amount) a e
  unfolding day_line
  put_day_line days amount first last = put_then first refl (put_last last refl)

  -- The line of a day: refused and answered.
  module _ (season : Season) (days : ℕ) {answer : AmountAnswer} (is : answer ≡ answer_of season days) where
    pub put_refused : {rooms : ℕ} → (answer.refusal ≡ 0 → ⊥) → Puts b at rooms (refused_line answer.refusal) a e
        → Puts b at rooms (amount_line season days) a e
    unfolding amount_line
    put_refused h w = put_refusal (λ v. v.refusal) (λ v. day_line days v.amount) is h w

    pub wrote_answered : answer.refusal ≡ 0 → Wrote b at (day_line days answer.amount) a e
        → Wrote b at (amount_line season days) a e
    unfolding amount_line
    wrote_answered h w = wrote_told (λ v. v.refusal) (λ v. day_line days v.amount) is h w
