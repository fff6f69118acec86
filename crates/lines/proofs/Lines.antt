-- The line of a record by its judgement, and its length.
use Prim.Native.Nat.{ℕ, ◌≤◌}
use mathlib.Core.Path.{◌≡◌, subst, ap, ap₂}
use mathlib.Core.Bool.{true, false, cond}
use mathlib.Core.List.{List, [], ◌∷◌, ◌++◌}
use native.Mathlib.Omega.{arith}
use lib.Dec.{eqb}
use lib.ListN.{length, length-append}
use borrow.Author.Tests.{eq-eqb, ne_eqb}
use Rattle.citation.specs.Answers.{JudgementAnswer}
use Rattle.citation.specs.Store.{judge_of}
use Rattle.calendar.proofs.Cases.{by_bool}
use Rattle.calendar.specs.declared.data.DayName.{DayName}
use Rattle.calendar.specs.SixtyDayName.{name_of}
use Rattle.reckoning.specs.RefusalNumbers.{SHORT, LEAP}
use Rattle.citation.specs.Record.{system_of, year_field, month_field, leap_field, day_field}
use Rattle.text.specs.Piece.{year, month, line, refused_word, refused_line, refused_telling_line}
use Rattle.text.specs.Wrote.{Wrote}
use Rattle.text.proofs.Lengths.{year_length_lem, month_length_lem, line_length}
use Rattle.text.proofs.Writing.{wrote_as}
use Rattle.text.specs.Put.{Put}
use Rattle.text.proofs.Putting.{Puts, put_nothing}
use Rattle.lines.specs.Line.{words, stored_line, refusal_line, line_of}
use Rattle.lines.specs.Program.{ending_of}

-- The words of a stored record and its day make its line.
pub told_stored : {b a : List ℕ} {at e year : ℕ} {name : DayName} (stored : List ℕ) (r : ℕ)
    → year ≡ year_field stored
    → name ≡ record { 0 = name_of r }
    → Wrote b at (words (system_of stored) year (month_field stored) (leap_field stored) (day_field stored) r name.0) a e
    → Wrote b at (stored_line stored r) a e
unfolding stored_line
told_stored stored r year_is name-is w =
    wrote_as (λ i. words (system_of stored) (year_is i) (month_field stored) (leap_field stored) (day_field stored) r (name-is i).0) w

-- The same of what was put.
pub put_stored : {b a : List ℕ} {at e year : ℕ} {name : DayName} (stored : List ℕ) (r : ℕ)
    → year ≡ year_field stored
    → name ≡ record { 0 = name_of r }
    → Puts b at 64 (words (system_of stored) year (month_field stored) (leap_field stored) (day_field stored) r name.0) a e
    → Puts b at 64 (stored_line stored r) a e
unfolding stored_line
put_stored {b} {a} {at} {e} stored r year_is name-is =
    subst (λ t. Puts b at 64 t a e)
    (λ i. words (system_of stored) (year_is i) (month_field stored) (leap_field stored) (day_field stored) r (name-is i).0)

-- The line of a record by its judgement.
module _ (s : List ℕ) (j : JudgementAnswer) (e : j ≡ judge_of s) where
  abbrev line_by : JudgementAnswer → List ℕ
  line_by x = cond (eqb x.refusal 0) (stored_line x.stored x.day.0) (refusal_line x.refusal x.told)

  pub line_refused : (j.refusal ≡ 0 → ⊥) → refusal_line j.refusal j.told ≡ line_of s
  unfolding line_of
  line_refused h = subst (λ x. refusal_line j.refusal j.told ≡ line_by x) e (simp (ne_eqb j.refusal 0 h))

  pub line_accepted : j.refusal ≡ 0 → stored_line j.stored j.day.0 ≡ line_of s
  unfolding line_of
  line_accepted h = subst (λ x. stored_line j.stored j.day.0 ≡ line_by x) e (simp (eq-eqb j.refusal 0 h))

-- A refusal's line is put with the month told, or without.
module _ {b a : List ℕ} {at end n number : ℕ} (is : n ≡ number) where
  pub put_telling : {t told : ℕ} → t ≡ told → number ≡ LEAP → Puts b at 64 (refused_telling_line n t) a end
      → Puts b at 64 (refusal_line number told) a end
  put_telling e h w =
      simp (eq-eqb number LEAP h) (subst (λ line. Puts b at 64 line a end) (ap₂ refused_telling_line is e) w)

  pub put_plain : (told : ℕ) → (number ≡ LEAP → ⊥) → Puts b at 64 (refused_line n) a end → Puts b at 64 (refusal_line number told) a end
  put_plain told h w =
      simp (ne_eqb number LEAP h) (subst (λ line. Puts b at 64 line a end) (ap refused_line is) w)

pub wrote_refused : {b a : List ℕ} {at end : ℕ} {j : JudgementAnswer} (s : List ℕ) → j ≡ judge_of s → (j.refusal ≡ 0 → ⊥)
    → Wrote b at (refusal_line j.refusal j.told) a end
    → Wrote b at (line_of s) a end
wrote_refused {j = j} s e h w = wrote_as (line_refused s j e h) w

pub wrote_accepted : {b a : List ℕ} {at end : ℕ} {j : JudgementAnswer} (s : List ℕ) → j ≡ judge_of s → j.refusal ≡ 0
    → Wrote b at (stored_line j.stored j.day.0) a end
    → Wrote b at (line_of s) a end
wrote_accepted {j = j} s e h w = wrote_as (line_accepted s j e h) w

-- No line is longer than 64 bytes.
words_length : (system n number leap day r name : ℕ) → length (words system n number leap day r name) ≤ 64
words_length system n number leap day r name =
    let last = day ∷ r ∷ name ∷ [] in
    omega (
      arith,
      length-append (year system n) (month number leap ++ line [] last),
      length-append (month number leap) (line [] last),
      year_length_lem system n,
      month_length_lem number leap,
      line_length [] last,
    )

stored_length : (stored : List ℕ) (r : ℕ) → length (stored_line stored r) ≤ 64
unfolding stored_line
stored_length stored r = words_length _ _ _ _ _ _ _

refusal_length : (number told : ℕ) → length (refusal_line number told) ≤ 64
refusal_length number told =
    let refused = line_length refused_word in
    by_bool (eqb number LEAP)
    (λ e. simp e (omega (arith, refused (number ∷ told ∷ []))))
    (λ e. simp e (omega (arith, refused (number ∷ []))))

pub line_short : (s : List ℕ) → length (line_of s) ≤ 64
unfolding line_of
line_short s =
    let j = judge_of s in
    by_bool (eqb j.refusal 0)
    (λ e. simp e (stored_length j.stored j.day.0))
    (λ e. simp e (refusal_length j.refusal j.told))

-- The line for bytes that are no record, by whether there are any.
module _ (rest : List ℕ) where
  pub put_no_ending : (b : List ℕ) (at : ℕ) → eqb (length rest) 0 ≡ true → Put b at 19 (ending_of rest) b at
  put_no_ending b at none = simp none (put_nothing b at 19)

  pub put_ending : {b a : List ℕ} {at end n : ℕ} → eqb (length rest) 0 ≡ false → n ≡ SHORT → Put b at 19 (refused_line n) a end
      → Put b at 19 (ending_of rest) a end
  put_ending {b} {a} {at} {end} some is p = simp some (subst (λ n. Put b at 19 (refused_line n) a end) is p)
