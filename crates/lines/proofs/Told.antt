-- The line of a record, by the reckoning: the date and the day that an accepted citation names, or its refusal.
use Prim.Native.Nat.{ℕ, ◌+◌, ◌*◌, ◌/◌, ◌%◌, ◌<◌}
use mathlib.Core.Path.{◌≡◌, refl, subst, ap, ap₂, sym, ◌∙◌}
use mathlib.Core.List.{List}
use native.Mathlib.Omega.{arith}
use borrow.Author.Tests.{ne_eqb}
use Rattle.calendar.specs.Year.{LeapNumber}
use Rattle.calendar.proofs.EachSystem.{consistent}
use Rattle.calendar.proofs.LeapMonths.{leap_number_unique}
use Rattle.reckoning.specs.RefusalNumbers.{LEAP}
use Rattle.reckoning.specs.WordedRefusals.{FirstOf}
use Rattle.citation.specs.Record.{system_of, record_of}
use Rattle.citation.specs.DayCited.{constants_in, elapsed_in, NamesDay, OnDate}
use Rattle.citation.specs.CitationRefusals.{citation_rows, Accepted}
use Rattle.citation.specs.Store.{judge_of, told_of}
use Rattle.citation.proofs.RowLaws.{first_unique}
use Rattle.citation.proofs.OneDay.{names_unique}
use Rattle.citation.proofs.OneDate.{record_unique}
use Rattle.citation.proofs.FirstRefusal.{judgement_first}
use Rattle.citation.proofs.LeapMonthTold.{leap_told}
use Rattle.citation.proofs.Canonical.{passed}
use Rattle.text.specs.Piece.{refused_line, refused_telling_line}
use Rattle.lines.specs.Line.{day_line, stored_line, refusal_line, line_of}
use Rattle.lines.proofs.Lines.{line_refused, line_accepted}

-- A stored record is told as its date.
told_date : (system year month leap day r : ℕ) → stored_line (record_of system year month leap day) r ≡ day_line system year month leap day r
unfolding stored_line
told_date system year month leap day r =
    let whole : year % 256 + 256 * (year / 256) ≡ year = omega arith in ap (λ y. day_line system y month leap day r) whole

pub line_of_day : (s : List ℕ) → Accepted s → (r year month leap day : ℕ) → NamesDay s r → OnDate (system_of s) r year month leap day
    → line_of s ≡ day_line (system_of s) year month leap day r
line_of_day s a r year month leap day names date =
    let j = judge_of s in
    let κ = (passed s a).kept in
    let same : j.day.0 ≡ r = names_unique s j.day.0 r κ.names names in
    let kept = subst (λ x. OnDate (system_of s) x κ.year κ.month κ.leap κ.day) same κ.dated in
    let stored : j.stored ≡ record_of (system_of s) year month leap day =
    κ.stored ∙ record_unique (system_of s) r _ _ _ _ _ _ _ _ kept date
    in
    sym (line_accepted s j refl (passed s a).no_refusal)
    ∙ ap₂ stored_line stored same
    ∙ told_date (system_of s) year month leap day r

-- A refusal's line: with LEAP the leap month of the year cited, or 0 if it has none, and with any other number nothing.
module _ (s : List ℕ) (number : ℕ) (some : 0 < number) (first : FirstOf (citation_rows s) number) where
  refusal_is : (judge_of s).refusal ≡ number
  refusal_is = first_unique (citation_rows s) _ number (judgement_first s) first

  line_is : line_of s ≡ refusal_line number (told_of s)
  line_is =
      sym (line_refused s (judge_of s) refl (λ z. omega (arith, refusal_is)))
      ∙ ap (λ x. refusal_line x (told_of s)) refusal_is

  pub line_of_leap : (told : ℕ) → number ≡ LEAP → LeapNumber (constants_in s) (elapsed_in s) told → line_of s ≡ refused_telling_line LEAP told
  line_of_leap told leap is =
      let same : told_of s ≡ told =
      leap_number_unique (constants_in s) (consistent (system_of s)) (elapsed_in s) _ told (leap_told s (refusal_is ∙ leap)) is
      in
      line_is ∙ ap₂ refusal_line leap same

  pub line_of_refusal : (number ≡ LEAP → ⊥) → line_of s ≡ refused_line number
  line_of_refusal other = line_is ∙ simp (ne_eqb number LEAP other)
