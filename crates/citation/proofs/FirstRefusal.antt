-- Every citation is judged by the table: the first refusal that applies, and none otherwise.
use Prim.Native.Nat.{ℕ}
use mathlib.Core.Path.{◌≡◌, refl, subst, ap, sym}
use mathlib.Core.Logic.{inl, inr}
use mathlib.Core.List.{List, [], ◌∷◌}
use native.Mathlib.Omega.{arith}
use lib.ListN.{length}
use Rattle.calendar.specs.Inside.{Inside}
use Rattle.calendar.proofs.Rising.{by_order}
use Rattle.reckoning.proofs.RefusalCases.{by_inside}
use Rattle.reckoning.specs.RefusalNumbers.{SHORT, KIND, RETIRED, LENGTH, OUTPUT}
use Rattle.citation.specs.Answers.{JudgementAnswer}
use Rattle.citation.specs.Record.{kind_of}
use Rattle.reckoning.specs.WordedRefusals.{FirstOf, ◌when◌}
use Rattle.citation.specs.CitationRefusals.{TooShort, WrongKind, RetiredKind, WrongLength, NoRoom, content_rows, citation_rows, storing_rows}
use Rattle.citation.specs.Store.{judge_kind, judge_of, refusal_of}
use Rattle.citation.proofs.RowLaws.{first_unique, first_before, first_after}
use Rattle.citation.proofs.JudgementCases.{kind_one, kind_five, kind_three, kind_four}
use Rattle.citation.proofs.JudgementCases.{by_equal}
use Rattle.citation.proofs.WholeRecord.{by_length, too_short, wrong_kind, retired_kind, wrong_length, right_record}
use Rattle.citation.proofs.JudgedByKind.{Judged, plainly_refused, day_judged, name_judged, ordinal_judged, register_day_judged}
use Rattle.citation.proofs.Storing.{refusal_kept, refusal_output, refusal_none}

module _ (s : List ℕ) where
  -- A record by its kind.
  kind_judged : Inside 1 5 (kind_of s) → (RetiredKind s → ⊥) → Judged (content_rows s) s (judge_kind s)
  kind_judged i not_two =
      by_equal (kind_of s) 1
      (λ e. subst (Judged (content_rows s) s) (kind_one s refl e refl refl refl refl refl) (day_judged s e))
      (λ not_one.
      by_equal (kind_of s) 5
      (λ e. subst (Judged (content_rows s) s) (kind_five s refl e refl refl refl refl refl) (name_judged s e))
      (λ not_five.
      by_equal (kind_of s) 3
      (λ e. subst (Judged (content_rows s) s) (kind_three s refl e refl refl refl) (ordinal_judged s e))
      (λ not_three.
      let e : kind_of s ≡ 4 = omega (arith, i) in
      subst (Judged (content_rows s) s) (kind_four s refl e refl refl) (register_day_judged s e))))

  -- It is a record: its content decides.
  content_decides : (j : JudgementAnswer) → (TooShort s → ⊥) → (WrongKind s → ⊥) → (RetiredKind s → ⊥) → (WrongLength s → ⊥)
      → Judged (content_rows s) s j
      → Judged (citation_rows s) s j
  content_decides j a b c d (Judged.refused number told some tells e rows) =
      Judged.refused number told some tells e (inr (a, inr (b, inr (c, inr (d, rows)))))
  content_decides j a b c d (Judged.accepted z nothing rows kept) =
      Judged.accepted z nothing (inr (a, inr (b, inr (c, inr (d, rows))))) kept

  pub judged : Judged (citation_rows s) s (judge_of s)
  judged =
      by_order (length s) 4
      (λ h. plainly_refused SHORT (omega arith) (sym (too_short s h)) (inl (refl, h)))
      (λ h.
      by_inside 1 5 (kind_of s)
      (λ e out. plainly_refused KIND (omega arith) (sym (wrong_kind s h out)) (inr (λ v. omega arith, inl (refl, out))))
      (λ e into.
      by_equal (kind_of s) 2
      (λ two.
      plainly_refused RETIRED (omega arith) (sym (retired_kind s h into two))
      (inr (λ v. omega arith, inr (λ v. v into, inl (refl, two)))))
      (λ not_two.
      by_length s
      (λ l wrong.
      plainly_refused LENGTH (omega arith) (sym (wrong_length s h into not_two l))
      (inr (λ v. omega arith, inr (λ v. v into, inr (not_two, inl (refl, wrong))))))
      (λ l right.
      subst (Judged (citation_rows s) s) (right_record s h into not_two l)
      (content_decides (judge_kind s) (λ v. omega arith) (λ v. v into) not_two (λ v. v right) (kind_judged into not_two))))))

-- The judgement's number is that of the first row on its bytes that applies.
pub judgement_first : (s : List ℕ) → FirstOf (citation_rows s) (judge_of s).refusal
judgement_first s = go (judged s)
  where
    go : Judged (citation_rows s) s (judge_of s) → FirstOf (citation_rows s) (judge_of s).refusal
    go (Judged.refused number told some tells e rows) =
        subst (FirstOf (citation_rows s)) (sym (ap (λ j. j.refusal) e)) rows
    go (Judged.accepted z nothing rows kept) = subst (FirstOf (citation_rows s)) (sym z) rows

-- The number that the storing step answers is that of the first row that applies, and 0 where none does;
pub refusal_first : (s : List ℕ) (room : ℕ) → FirstOf (storing_rows s room) (refusal_of s room)
refusal_first s room =
    let j = judge_of s in
    let rows = citation_rows s in
    let output = OUTPUT when NoRoom room ∷ [] in
    by_equal j.refusal 0
    (λ z.
    let none = subst (FirstOf rows) z (judgement_first s) in
    by_order room 10
    (λ h.
    subst (FirstOf (storing_rows s room)) (sym (refusal_output s room j refl z h))
    (first_after rows output OUTPUT (omega arith) none (inl (refl, h))))
    (λ h.
    subst (FirstOf (storing_rows s room)) (sym (refusal_none s room j refl z h))
    (first_after rows output 0 (omega arith) none (inr (λ v. omega arith, refl)))))
    (λ some.
    subst (FirstOf (storing_rows s room)) (sym (refusal_kept s room j refl some))
    (first_before rows output j.refusal (omega arith) (judgement_first s)))

-- and no other number is.
pub refusal_only : (s : List ℕ) (room number : ℕ) → FirstOf (storing_rows s room) number → number ≡ refusal_of s room
refusal_only s room number p = first_unique (storing_rows s room) number (refusal_of s room) p (refusal_first s room)
