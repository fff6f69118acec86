-- Stored records are canonical: equal just when they name the same day in the same system.
use Prim.Native.Nat.{ℕ, ◌^◌, ◌≤◌, ◌<◌}
use mathlib.Core.Path.{◌≡◌, refl, subst, ap, sym, ◌∙◌}
use mathlib.Core.List.{List, ◌++◌}
use native.Mathlib.Omega.{arith}
use lib.ListN.{length, take, drop}
use Rattle.calendar.specs.Systems.{constants_of, years_elapsed}
use Rattle.calendar.proofs.EachSystem.{consistent}
use Rattle.calendar.proofs.Reckoned.{reckoned}
use Rattle.calendar.proofs.Spans.{within}
use Rattle.reckoning.proofs.ScopeInRegister.{year_in_register}
use Rattle.citation.specs.Record.{kind_of, system_of, record_of}
use Rattle.citation.specs.DayCited.{NamesDay, OnDate}
use Rattle.citation.specs.CitationRefusals.{Accepted, citation_rows}
use Rattle.citation.specs.DemandWords.{stored}
use Rattle.citation.specs.Store.{judge_of, refusal_of, answer_of, stored_into}
use Rattle.citation.proofs.RowLaws.{first_unique}
use Rattle.citation.proofs.OneDay.{names_unique}
use Rattle.citation.proofs.OneDate.{record_unique}
use Rattle.citation.proofs.StoredRecord.{record_accepted, record_names}
use Rattle.citation.proofs.JudgedByKind.{Judged, Kept}
use Rattle.citation.proofs.FirstRefusal.{judged}
use Rattle.citation.proofs.LeapMonthTold.{nothing_told}
use Rattle.citation.proofs.Storing.{refusal_none, answer_accepted, output_accepted}

-- An accepted citation's judgement is no refusal, and keeps the day that it names.
pub record Passed (s : List ℕ) : Type 0 where
  pub no_refusal : (judge_of s).refusal ≡ 0
  pub kept : Kept s (judge_of s)

pub passed : (s : List ℕ) → Accepted s → Passed s
passed s a = go (judged s)
  where
    go : Judged (citation_rows s) s (judge_of s) → Passed s
    go (Judged.refused number told some tells e rows) = absurd (omega (arith, first_unique (citation_rows s) number 0 rows a))
    go (Judged.accepted z nothing rows kept) = record { no_refusal = z; kept = kept }

-- The day fits 32 bits, so that the answer tells day and refusal apart.
pub day_fits : (s : List ℕ) → Accepted s → (judge_of s).day.0 < 2 ^ 32
day_fits s a =
    let d = (passed s a).kept.dated in
    let c = constants_of (system_of s) in
    let ok = consistent (system_of s) in
    let year = (passed s a).kept.year in
    let w = within c ok (years_elapsed c year) d.k d.numbered.in_year in
    let head = (year_in_register (system_of s) year d.in_scope.year_inside).head d.k w.0 (omega arith) in
    omega (arith, d.placed, d.day_is, (reckoned c ok).month_most d.k)

module _ (s before : List ℕ) (a : Accepted s) (room : 10 ≤ length before) where
  abbrev κ : Kept s (judge_of s)
  κ = (passed s a).kept

  pub no_refusal : refusal_of s (length before) ≡ 0
  no_refusal = refusal_none s (length before) (judge_of s) refl (passed s a).no_refusal room

  pub answer_is : answer_of s (length before) ≡ (judge_of s).day.0
  answer_is =
      let none = (passed s a).no_refusal in
      sym (answer_accepted s (judge_of s) refl (length before) no_refusal (nothing_told s refl (λ e. omega (arith, none))))

  whole_output : record_of (system_of s) κ.year κ.month κ.leap κ.day ++ drop 10 before ≡ stored_into s before
  whole_output = sym (ap (λ t. t ++ drop 10 before) κ.stored) ∙ output_accepted s (judge_of s) refl before no_refusal

  -- the first ten bytes are the record of the day's date, and the rest is left
  pub stored_is : stored s before ≡ record_of (system_of s) κ.year κ.month κ.leap κ.day
  stored_is = ap (take 10) (sym whole_output)

  pub rest_left : drop 10 (stored_into s before) ≡ drop 10 before
  rest_left = ap (drop 10) (sym whole_output)

  pub stored_accepted : Accepted (stored s before)
  stored_accepted = subst Accepted (sym stored_is) (record_accepted _ _ _ _ _ _ κ.dated)

  pub stored_names : NamesDay (stored s before) (judge_of s).day.0
  stored_names = subst (λ t. NamesDay t (judge_of s).day.0) (sym stored_is) (record_names _ _ _ _ _ _ κ.dated)

  pub stored_system : system_of (stored s before) ≡ system_of s
  stored_system = ap system_of stored_is

  pub stored_kind : kind_of (stored s before) ≡ 1
  stored_kind = ap kind_of stored_is

-- A day's record, however the day was cited: whoever stores a day of a date gets the record of that date.
pub stored_of_date : (s before : List ℕ) → Accepted s → 10 ≤ length before → (system r year month leap day : ℕ)
    → system_of s ≡ system
    → NamesDay s r
    → OnDate system r year month leap day
    → stored s before ≡ record_of system year month leap day
stored_of_date s before a room system r year month leap day e n d =
    let κ = (passed s a).kept in
    let same : (judge_of s).day.0 ≡ r = names_unique s (judge_of s).day.0 r κ.names n in
    let here = subst (λ x. OnDate (system_of s) x κ.year κ.month κ.leap κ.day) same κ.dated in
    let there = subst (λ x. OnDate x r year month leap day) (sym e) d in
    stored_is s before a room
    ∙ record_unique (system_of s) r κ.year κ.month κ.leap κ.day year month leap day here there
    ∙ ap (λ x. record_of x year month leap day) e
