-- The customer's three demands as theorems. What they speak of is defined in the specs/ of the crates. The code is
-- proved to answer by `answer_of`, `stored_into`, `year_of` and their like, for every input; that it ends, the language
-- guarantees.
use Prim.Native.Nat.{ℕ, ◌+◌, ◌*◌, ◌^◌, ◌≤◌, ◌<◌}
use mathlib.Core.Path.{◌≡◌, refl, subst, sym, ap, ◌∙◌}
use mathlib.Core.Logic.{◌↔◌}
use mathlib.Core.List.{List}
use lib.ListN.{length, drop}
use Rattle.calendar.specs.declared.data.Constants.{Constants}
use Rattle.calendar.specs.ExactlyOne.{ExactlyOne}
use Rattle.calendar.specs.Systems.{constants_of, years_elapsed}
use Rattle.calendar.specs.Year.{DayOfYear, HasLeap, LeapNumber}
use Rattle.calendar.proofs.EachSystem.{consistent}
use Rattle.calendar.proofs.Spans.{span}
use Rattle.calendar.proofs.LeapMonths.{leap_number_unique, told_zero}
use Rattle.calendar.proofs.Laws.{month_days, year_months, months_cover, months_stay_within, twelve_none_lacks, thirteen_one_leap}
use Rattle.reckoning.specs.Scope.{InScope}
use Rattle.reckoning.specs.WordedRefusals.{FirstOf, year_rows, qi_rows}
use Rattle.reckoning.specs.ComputedRefusals.{year_refusal, qi_refusal}
use Rattle.reckoning.specs.Requests.{qi_of, no_moment, year_of, no_year, sheet_of, no_sheet, days_of, ordinal_day_of, month_of, date_of}
use Rattle.reckoning.specs.Outcomes.{DaysOutcome, OrdinalOutcome, MonthOutcome, DateOutcome}
use Rattle.reckoning.proofs.RefusedRequests as Blanks
use Rattle.reckoning.proofs.RequestsEnd as Outcomes
use Rattle.reckoning.specs.YearValue.{ListsMonths, Tiled}
use Rattle.reckoning.specs.AnswerMeanings.{IsSolstice, IsQi, IsSheet}
use Rattle.reckoning.proofs.MonthsRight as MonthsHeld
use Rattle.reckoning.proofs.AnswersRight as AnswersHeld
use Rattle.citation.specs.Record.{kind_of, system_of, record_of}
use Rattle.citation.specs.DayCited.{NamesDay, OnDate, Dated}
use Rattle.citation.specs.CitationRefusals.{storing_rows, Accepted, Tells}
use Rattle.citation.specs.Store.{judge_of, refusal_of, told_of, answer_of, stored_into}
use Rattle.citation.proofs.OneDay.{names_unique}
use Rattle.citation.proofs.OneDate.{record_unique}
use Rattle.citation.proofs.StoredRecord.{record_accepted, record_names, record_bytes_lem}
use Rattle.citation.proofs.FirstRefusal as Refusals
use Rattle.citation.proofs.LeapMonthTold as Telling
use Rattle.citation.proofs.Storing.{answer_refused, output_refused}
use Rattle.citation.proofs.Canonical as Canonical
use Rattle.citation.specs.DemandWords.{stored, OneRecord, MonthsTile}
use Rattle.citation.proofs.KindOne as KindOne

-- Demand 1. Whatever the bytes, the storing step gives the first refusal of the table that applies, and 0 where none
-- does;
pub refusal_is_the_first : (s : List ℕ) (room : ℕ) → FirstOf (storing_rows s room) (refusal_of s room)
refusal_is_the_first = Refusals.refusal_first

pub no_other_refusal : (s : List ℕ) (room number : ℕ) → FirstOf (storing_rows s room) number → number ≡ refusal_of s room
no_other_refusal = Refusals.refusal_only

-- refused, it answers day 0 with the number and what that tells, and leaves the output as it was.
pub refused_answer : (s : List ℕ) (room : ℕ) → (refusal_of s room ≡ 0 → ⊥)
    → refusal_of s room * 2 ^ 32 + told_of s * 2 ^ 40 ≡ answer_of s room
refused_answer s room some = answer_refused s (refusal_of s room) some room (told_of s) refl refl

pub refused_changes_nothing : (s before : List ℕ) → (refusal_of s (length before) ≡ 0 → ⊥) → before ≡ stored_into s before
refused_changes_nothing s before some = output_refused s (refusal_of s (length before)) some before refl

-- Paper 02, Q-3: with LEAP, and only with it, the leap month of the year cited is told, or 0 if it has none. That is one
-- number in each year, and 0 just when there is no leap month.
pub tells_the_leap_month : (s : List ℕ) (room : ℕ) → Tells s (refusal_of s room) (told_of s)
tells_the_leap_month = Telling.told_rightly

module _ (system n : ℕ) where
  pub one_number_to_tell : (a b : ℕ) → LeapNumber (constants_of system) n a → LeapNumber (constants_of system) n b → a ≡ b
  one_number_to_tell = leap_number_unique (constants_of system) (consistent system) n

  pub zero_just_when_none : (told : ℕ) → LeapNumber (constants_of system) n told
      → (told ≡ 0) ↔ ((number : ℕ) → HasLeap (constants_of system) n number → ⊥)
  zero_just_when_none = told_zero (constants_of system) (consistent system) n

-- The requests by system and year are refused by their tables too,
pub year_refusal_is_the_first : (system year : ℕ) → FirstOf (year_rows system year) (year_refusal system year)
year_refusal_is_the_first = Blanks.year_refusal_first

pub qi_refusal_is_the_first : (system year q : ℕ) → FirstOf (qi_rows system year q) (qi_refusal system year q)
qi_refusal_is_the_first = Blanks.qi_refusal_first

-- and then give their blanks with the number.
module _ (system year : ℕ) (some : year_refusal system year ≡ 0 → ⊥) where
  pub months_blank : year_of system year ≡ no_year (year_refusal system year)
  months_blank = Blanks.year_blank system year some

  pub sheet_blank : sheet_of system year ≡ no_sheet (year_refusal system year)
  sheet_blank = Blanks.sheet_blank system year some

pub qi_blank : (system year q : ℕ) → (qi_refusal system year q ≡ 0 → ⊥) → qi_of system year q ≡ no_moment (qi_refusal system year q)
qi_blank = Blanks.qi_blank

-- How the other requests end: refused by the table, or found.
pub days_end : (system year : ℕ) → DaysOutcome system year (days_of system year)
days_end = Outcomes.days_outcome

pub ordinal_day_ends : (system year ordinal : ℕ) → OrdinalOutcome system year ordinal (ordinal_day_of system year ordinal)
ordinal_day_ends = Outcomes.ordinal_outcome

pub month_ends : (system year number leap : ℕ) → MonthOutcome system year number leap (month_of system year number leap)
month_ends = Outcomes.month_outcome

pub date_ends : (system r : ℕ) → DateOutcome system r (date_of system r)
date_ends = Outcomes.date_outcome

-- Demand 2. For each system and years 1 to 3000, solstice, qi, months and day names are those of the reckoning.
module _ (system year : ℕ) (i : InScope system year) where
  abbrev c : Constants
  c = constants_of system

  abbrev n : ℕ
  n = years_elapsed c year

  -- the solstice is qi 0
  pub qi_0_is_solstice : IsSolstice c n (qi_of system year 0)
  qi_0_is_solstice = AnswersHeld.qi_0_is_solstice system year i

  pub qi_holds : (q : ℕ) → q ≤ 24 → IsQi c n q (qi_of system year q)
  qi_holds = AnswersHeld.qi_holds system year i

  pub months_hold : ListsMonths c n (year_of system year)
  months_hold = MonthsHeld.year_holds system year i

  pub sheet_holds : IsSheet c n (sheet_of system year)
  sheet_holds = AnswersHeld.sheet_holds system year i

-- An accepted citation, of any kind, names one day;
pub names_one_day : (s : List ℕ) → Accepted s → ExactlyOne (NamesDay s)
names_one_day s a =
    record {
      it = (judge_of s).day.0;
      has = (Canonical.passed s a).kept.names;
      only = λ r m. names_unique s r (judge_of s).day.0 m (Canonical.passed s a).kept.names;
    }

-- which has a date in its system;
pub has_its_date : (s : List ℕ) → Accepted s → (r : ℕ) → NamesDay s r → Dated (system_of s) r
has_its_date s a r m =
    let κ = (Canonical.passed s a).kept in
    let same = names_unique s (judge_of s).day.0 r κ.names m in
    record {
      year = κ.year;
      month = κ.month;
      leap = κ.leap;
      day = κ.day;
      on = subst (λ x. OnDate (system_of s) x κ.year κ.month κ.leap κ.day) same κ.dated;
    }

-- stored in an output of ten bytes or more,
module _ (s before : List ℕ) (a : Accepted s) (room : 10 ≤ length before) (r : ℕ) (m : NamesDay s r) where
  same_day : (judge_of s).day.0 ≡ r
  same_day = names_unique s (judge_of s).day.0 r (Canonical.passed s a).kept.names m

  -- it answers that day, with no refusal,
  pub answers_its_day : answer_of s (length before) ≡ r
  answers_its_day = Canonical.answer_is s before a room ∙ same_day

  pub is_not_refused : refusal_of s (length before) ≡ 0
  is_not_refused = Canonical.no_refusal s before a room

  pub day_fits : r < 2 ^ 32
  day_fits = subst (λ x. x < 2 ^ 32) same_day (Canonical.day_fits s a)

  -- its first ten bytes are the record of the day's date: a citation of kind 1 for the same day in the same system.
  pub stores_its_date : (year month leap day : ℕ) → OnDate (system_of s) r year month leap day
      → stored s before ≡ record_of (system_of s) year month leap day
  stores_its_date year month leap day d = Canonical.stored_of_date s before a room (system_of s) r year month leap day refl m d

  pub stores_its_day : NamesDay (stored s before) r
  stores_its_day = subst (NamesDay (stored s before)) same_day (Canonical.stored_names s before a room)

  pub stores_kind_one : kind_of (stored s before) ≡ 1
  stores_kind_one = Canonical.stored_kind s before a room

  pub stores_its_system : system_of (stored s before) ≡ system_of s
  stores_its_system = Canonical.stored_system s before a room

  -- The rest of the output is left.
  pub leaves_the_rest : drop 10 (stored_into s before) ≡ drop 10 before
  leaves_the_rest = Canonical.rest_left s before a room

-- Demand 3. Two accepted citations of any kinds and systems, stored over whatever their outputs held: the records are
-- equal just when system and day are.
pub equal_exactly_when : (s before t under : List ℕ) → Accepted s → 10 ≤ length before → Accepted t → 10 ≤ length under
    → (r q : ℕ) → NamesDay s r → NamesDay t q
    → (stored s before ≡ stored t under) ↔ ((system_of s ≡ system_of t) × (r ≡ q))
equal_exactly_when s before t under a room b space r q m o = (λ e. (same_system e, same_day_named e), λ p. same_record p.0 p.1)
  where
    same_system : stored s before ≡ stored t under → system_of s ≡ system_of t
    same_system e =
        sym (stores_its_system s before a room r m) ∙ ap system_of e ∙ stores_its_system t under b space q o

    same_day_named : stored s before ≡ stored t under → r ≡ q
    same_day_named e =
        let here = subst (λ x. NamesDay x r) e (stores_its_day s before a room r m) in
        names_unique (stored t under) r q here (stores_its_day t under b space q o)

    same_record : system_of s ≡ system_of t → r ≡ q → stored s before ≡ stored t under
    same_record e f =
        let κ = (Canonical.passed t b).kept in
        let day = names_unique t (judge_of t).day.0 q κ.names o in
        Canonical.stored_of_date s before a room (system_of t) r κ.year κ.month κ.leap κ.day e m
        (subst (λ x. OnDate (system_of t) x κ.year κ.month κ.leap κ.day) (day ∙ sym f) κ.dated)
        ∙ sym (Canonical.stored_is t under b space)

-- Storing a stored record once more is accepted, and changes nothing.
pub stored_again_accepted : (s before : List ℕ) → Accepted s → 10 ≤ length before → Accepted (stored s before)
stored_again_accepted s before a room = Canonical.stored_accepted s before a room

pub stored_again_same : (s before under : List ℕ) → Accepted s → 10 ≤ length before → 10 ≤ length under
    → stored (stored s before) under ≡ stored s before
stored_again_same s before under a room space =
    let again = Canonical.stored_accepted s before a room in
    let names = Canonical.stored_names s before a room in
    let day = (judge_of s).day.0 in
    (equal_exactly_when (stored s before) under s before again space a room day day names (Canonical.passed s a).kept.names
    ).1 (Canonical.stored_system s before a room, refl)

-- In each system, every day of those years has one stored record.
pub every_day_has_one_record : (system year d : ℕ) → InScope system year
    → DayOfYear (constants_of system) (years_elapsed (constants_of system) year) d
    → OneRecord system d
every_day_has_one_record system year d i y =
    let r = KindOne.registered system year d i y in
    let x = KindOne.dated system year r.0 d i r.1 y in
    record {
      day = r.0;
      is_day = r.1;
      it = record_of system x.year x.month x.leap x.day;
      bytes = record_bytes_lem system r.0 _ _ _ _ x.on;
      accepted = record_accepted system r.0 _ _ _ _ x.on;
      is_kind_one = refl;
      in_system = refl;
      names = record_names system r.0 _ _ _ _ x.on;
      every_storing = λ s before a room e m. Canonical.stored_of_date s before a room system r.0 _ _ _ _ e m x.on;
      no_other = λ t bytes a kind e m.
          let here = KindOne.on_its_date t a kind r.0 m in
          let there = subst (λ z. OnDate z r.0 x.year x.month x.leap x.day) (sym e) x.on in
          KindOne.record_of_fields t a kind bytes
          ∙ record_unique (system_of t) r.0 _ _ _ _ _ _ _ _ here there
          ∙ ap (λ z. record_of z x.year x.month x.leap x.day) e;
    }

-- In each of those years and each system, the months tile the days.
pub months_tile : (system year : ℕ) → InScope system year → MonthsTile (constants_of system) (years_elapsed (constants_of system) year)
months_tile system year i =
    let c = constants_of system in
    let ok = consistent system in
    let n = years_elapsed c year in
    let y = span c ok n in
    record {
      year = y;
      twelve_or_thirteen = year_months c ok y;
      lengths = λ k p. month_days c ok k;
      each_day_once = months_cover c ok n;
      no_day_more = months_stay_within c ok n;
      of_twelve_none = twelve_none_lacks c ok y;
      of_thirteen_one = thirteen_one_leap c ok y;
    }

-- So does the list that `year` returns, whose leap marks stand for the lacking middle qi.
pub value_tiles : (system year : ℕ) → InScope system year → Tiled (year_of system year)
value_tiles = MonthsHeld.year_tiled
