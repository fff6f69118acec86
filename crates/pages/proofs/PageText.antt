-- The text of a page from its pieces.
use Prim.Native.Nat.{ℕ, ◌+◌, ◌*◌, ◌≤◌, ◌<◌}
use mathlib.Core.Path.{◌≡◌, refl, subst, ap, ap₂, ◌∙◌}
use Rattle.std.specs.Prelude.{Option}
use mathlib.Core.List.{List, [], ◌∷◌, ◌++◌}
use native.Mathlib.Omega.{arith}
use lib.ListN.{length, take, get_or}
use Rattle.std.proofs.lemmas.List.{get_or-take}
use Rattle.reckoning.specs.Answers.{DaysAnswer, SheetAnswer, YearAnswer}
use Rattle.reckoning.specs.declared.data.Sheet.{Sheet}
use Rattle.reckoning.specs.Told.{sheet_answered}
use Rattle.reckoning.specs.Requests.{qi_of, year_of, sheet_of, days_of}
use Rattle.reckoning.specs.YearValue.{head_in}
use Rattle.text.specs.Piece.{word, field, year, month, numbered, line, last_field, refused_line, texts_up_to}
use Rattle.text.specs.Put.{Put}
use Rattle.text.specs.Wrote.{Wrote}
use Rattle.text.proofs.Writing.{wrote_as, wrote_then, wrote_one_more}
use Rattle.text.proofs.Putting.{Puts, put_wrote, put_then, put_three, all_put}
use Rattle.pages.proofs.Ending.{told_refused, told_answered}
use Rattle.pages.specs.declared.months.ToldMonth.{ToldMonth}
use Rattle.pages.specs.StepLines.{step_lines}
use Rattle.pages.specs.Page.{qi_word, year_line, held_qi, told_month, month_start, month_line, month_lines, next_line}
use Rattle.pages.specs.Page.{name_at, sheet_names, names_line, month_at, year_lines, page_of}

-- A loop's texts, one more.
pub wrote_month_more : {b m a : List ℕ} {at p e : ℕ} {month : ToldMonth} (months : YearAnswer) (i : ℕ) → month ≡ told_month months i
    → Wrote b at (texts_up_to (month_at months) i) m p
    → Wrote m p (month_line month) a e
    → Wrote b at (texts_up_to (month_at months) (i + 1)) a e
wrote_month_more months i is w v = wrote_one_more (month_at months) i w (wrote_as (ap month_line is) v)

pub wrote_name_more : {b m a : List ℕ} {start p e : ℕ} (sheet : Sheet) (days i : ℕ)
    → Wrote b start (texts_up_to (name_at (sheet_answered sheet)) i) m p
    → Put m p 11 (field (get_or (take days sheet.names) i 0)) a e
    → start + 4224 ≤ length b
    → p ≤ start + 11 * i
    → i < length (take days sheet.names)
    → length (take days sheet.names) ≡ days
    → days ≤ 384
    → Wrote b start (texts_up_to (name_at (sheet_answered sheet)) (i + 1)) a e
wrote_name_more sheet days i w v room near more all most =
    wrote_one_more (name_at (sheet_answered sheet)) i w
    (wrote_as (ap field (get_or-take days sheet.names i 0 (omega arith))) (put_wrote v (omega (arith, w.same_length))))

-- Lines told by their own definitions, a name by its day.
module _ {b a : List ℕ} {at e rooms : ℕ} where
  pub put_year_line : (system n months days : ℕ)
      → Puts b at rooms (word (121 ∷ 101 ∷ 97 ∷ 114 ∷ 32 ∷ []) ++ (year system n ++ line [] (months ∷ days ∷ []))) a e
      → Puts b at rooms (year_line system n months days) a e
  unfolding year_line
  put_year_line system n months days w = w

  pub put_next : (months : YearAnswer)
      → Puts b at rooms (line (110 ∷ 101 ∷ 120 ∷ 116 ∷ []) (head_in months months.count ∷ [])) a e
      → Puts b at rooms (next_line months) a e
  unfolding next_line
  put_next months w = w

-- The line of a month, in two parts.
pub put_month_start : {b m₁ m₂ m₃ a : List ℕ} {at p₁ p₂ p₃ e : ℕ} (m : ToldMonth)
    → Put b at 16 (numbered (109 ∷ 111 ∷ 110 ∷ 116 ∷ 104 ∷ []) m.place) m₁ p₁
    → Put m₁ p₁ 12 (month m.number m.leap) m₂ p₂
    → Put m₂ p₂ 11 (field m.head) m₃ p₃
    → Put m₃ p₃ 11 (field m.name) a e
    → Puts b at 50 (month_start m) a e
unfolding month_start
put_month_start m place number head name = put_then place refl (put_three number head name refl)

pub put_month_line : {b m₁ m₂ m₃ a : List ℕ} {at p₁ p₂ p₃ e : ℕ} {held : Option ℕ} (m : ToldMonth) → held ≡ held_qi m.held
    → Wrote b at (month_start m) m₁ p₁
    → p₁ ≤ at + 50
    → Put m₁ p₁ 11 (field m.days) m₂ p₂
    → Put m₂ p₂ 11 (field m.remainder) m₃ p₃
    → Put m₃ p₃ 12 (last_field held) a e
    → Puts b at 84 (month_line m) a e
unfolding month_line
put_month_line {m₃ = m₃} {a = a} {p₃ = p₃} {e = e} m is start near days remainder last =
    let known = subst (λ held. Put m₃ p₃ 12 (last_field held) a e) is last in
    record {
      wrote =
          λ h.
          let w = all_put {rooms = 34} (put_three days remainder known refl) (omega (arith, start.same_length)) in
          (wrote_then start w.0, omega (arith, w.1));
    }

-- The line of the names.
pub put_names : {b m₁ m₂ a : List ℕ} {at p₁ p₂ e : ℕ} (sheet : SheetAnswer) (days : ℕ)
    → Put b at 5 (word (110 ∷ 97 ∷ 109 ∷ 101 ∷ 115 ∷ [])) m₁ p₁
    → Wrote m₁ p₁ (sheet_names sheet days) m₂ p₂
    → p₂ ≤ p₁ + 4224
    → Put m₂ p₂ 1 (word (10 ∷ [])) a e
    → Puts b at 4230 (names_line sheet days) a e
unfolding names_line
put_names sheet days first names near last =
    record {
      wrote =
          λ h.
          let w = put_wrote first (omega arith) in
          let v = put_wrote last (omega (arith, first.near, w.same_length, names.same_length)) in
          (wrote_then w (wrote_then names v), omega (arith, first.near, last.near));
    }

-- The whole page: of a year answered, and of one refused.
pub wrote_year_lines : {b m₁ m₂ m₃ m₄ a : List ℕ} {at p₁ p₂ p₃ p₄ e : ℕ} (system n : ℕ) (months : YearAnswer) (days : ℕ) (sheet : SheetAnswer)
    → Wrote b at (year_line system n months.count days) m₁ p₁
    → Wrote m₁ p₁ (step_lines qi_word (qi_of system n) 25) m₂ p₂
    → Wrote m₂ p₂ (month_lines months) m₃ p₃
    → Wrote m₃ p₃ (next_line months) m₄ p₄
    → Wrote m₄ p₄ (names_line sheet days) a e
    → Wrote b at (year_lines system n months days sheet) a e
unfolding year_lines
wrote_year_lines system n months days sheet w₁ w₂ w₃ w₄ w₅ =
    wrote_then w₁ (wrote_then w₂ (wrote_then w₃ (wrote_then w₄ w₅)))

abbrev told : ℕ → ℕ → YearAnswer → List ℕ
told system n v = year_lines system n v (days_of system n).length (sheet_of system n)

module _ (system n : ℕ) {months : YearAnswer} (is : months ≡ year_of system n) where
  pub page_refused : (months.refusal ≡ 0 → ⊥) → page_of system n ≡ refused_line months.refusal
  unfolding page_of
  page_refused some = told_refused (λ v. v.refusal) (told system n) is some

  pub page_answered : {days : DaysAnswer} {sheet : SheetAnswer} → months.refusal ≡ 0 → days ≡ days_of system n → sheet ≡ sheet_of system n
      → year_lines system n months days.length sheet ≡ page_of system n
  unfolding page_of
  page_answered none days-is sheet-is =
      ap₂ (λ d s. year_lines system n months d.length s) days-is sheet-is ∙ told_answered (λ v. v.refusal) (told system n) is none
