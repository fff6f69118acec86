-- Citations of kind 1: one for each day of a system, and every day has one.
use Prim.Native.Nat.{ℕ, ◌/◌, ◌%◌}
use mathlib.Core.Path.{◌≡◌, ap, sym, ◌∙◌}
use mathlib.Core.Logic.{inl}
use mathlib.Core.List.{List, [], ◌∷◌}
use native.Mathlib.Omega.{arith}
use lib.ListN.{length}
use Rattle.calendar.specs.Systems.{last_system, constants_of, years_elapsed, IsRegisterDay, register_day}
use Rattle.calendar.specs.Month.{month_head, month_length}
use Rattle.calendar.specs.Year.{DayOfYear}
use Rattle.reckoning.specs.Scope.{InScope}
use Rattle.reckoning.specs.Answers.{DateAnswer}
use Rattle.reckoning.specs.Requests.{date_of}
use Rattle.reckoning.specs.Outcomes.{DateOutcome}
use Rattle.calendar.proofs.EachSystem.{consistent}
use Rattle.calendar.proofs.Spans.{span_first}
use Rattle.reckoning.proofs.ScopeInRegister.{year_in_register}
use Rattle.reckoning.proofs.RegisterLaws.{first_head}
use Rattle.reckoning.proofs.RefusalCases.{by_inside}
use Rattle.reckoning.proofs.RequestsEnd.{date_outcome, year_day_in_scope}
use Rattle.little_endian.specs.Bytes.{byte, Bytes}
use Rattle.citation.specs.Record.{length_field, kind_of, kind_length, system_of, record_of}
use Rattle.citation.specs.Record.{year_field, month_field, leap_field, day_field}
use Rattle.citation.specs.DayCited.{Dated, constants_in, NamesDay, OnDate}
use Rattle.citation.specs.CitationRefusals.{Accepted, citation_rows, WrongLength, WrongSystem, WrongYear, NotPlaced}
use Rattle.citation.proofs.RowLaws.{none_applies}
use Rattle.citation.proofs.JudgedByKind.{day_not_placed}
use Rattle.citation.proofs.WholeRecord.{by_length}
use Rattle.citation.proofs.TenBytes.{elements, elements_all}

-- What an accepted citation does not have.
pub record Rightly (s : List ℕ) : Type 0 where
  pub length_right_lem : WrongLength s → ⊥
  pub system_right : WrongSystem s → ⊥
  pub year_right : WrongYear s → ⊥
  pub place_right : NotPlaced s → ⊥

pub rightly : (s : List ℕ) → Accepted s → Rightly s
rightly s a =
    let none = none_applies (citation_rows s) (omega arith) a in
    record {
      length_right_lem = none.1.1.1.0;
      system_right = none.1.1.1.1.0;
      year_right = none.1.1.1.1.1.0;
      place_right = none.1.1.1.1.1.1.1.1.0;
    }

module _ (b : List ℕ) (a : Accepted b) (kind : kind_of b ≡ 1) where
  -- its length is ten, and says so
  ten_long : (length_field b ≡ 10) × (length b ≡ 10)
  ten_long =
      let long : kind_length (kind_of b) ≡ 10 = ap kind_length kind in
      by_length b
      (λ e wrong. absurd ((rightly b a).length_right_lem wrong))
      (λ e right. (right.0 ∙ long, right.1 ∙ right.0 ∙ long))

  -- it is the record of what it says
  pub record_of_fields : Bytes b → b ≡ record_of (system_of b) (year_field b) (month_field b) (leap_field b) (day_field b)
  unfolding elements
  record_of_fields bytes =
      let l = ten_long in
      let e0 : byte b 0 ≡ 10 = omega arith in
      let e1 : byte b 1 ≡ 0 = omega arith in
      let e2 : byte b 2 ≡ 1 = omega arith in
      let e3 : byte b 3 ≡ 0 = omega arith in
      let e5 : byte b 5 ≡ year_field b % 256 = omega (arith, bytes 5) in
      let e6 : byte b 6 ≡ year_field b / 256 = omega (arith, bytes 5) in
      elements_all b 10 (sym l.1)
      ∙ (λ i. e0 i ∷ e1 i ∷ e2 i ∷ e3 i ∷ system_of b ∷ e5 i ∷ e6 i ∷ month_field b ∷ leap_field b ∷ day_field b ∷ [])

  in_scope : InScope (system_of b) (year_field b)
  in_scope =
      record {
        system_inside = by_inside 1 last_system (system_of b) (λ e out. absurd ((rightly b a).system_right out)) (λ e into. into);
        year_inside = by_inside 1 3000 (year_field b) (λ e out. absurd ((rightly b a).year_right (inl (inl kind), out))) (λ e into. into);
      }

  -- the day that it names is on the date that it says
  pub on_its_date : (r : ℕ) → NamesDay b r → OnDate (system_of b) r (year_field b) (month_field b) (leap_field b) (day_field b)
  on_its_date r (NamesDay.by_day e k m d) =
      record {
        k = k;
        in_scope = in_scope;
        numbered = m;
        placed =
            by_inside 1 (month_length (constants_in b) k) (day_field b)
            (λ f out. absurd ((rightly b a).place_right (day_not_placed b kind k m out)))
            (λ f into. into);
        day_is = d;
      }
  on_its_date r (NamesDay.by_name e k d m i p n) = absurd (omega arith)
  on_its_date r (NamesDay.by_ordinal e y d) = absurd (omega arith)
  on_its_date r (NamesDay.by_register_day e d) = absurd (omega arith)

-- Every count day of a year in scope has a register day,
pub registered : (system year d : ℕ) → InScope system year → DayOfYear (constants_of system) (years_elapsed (constants_of system) year) d
    → (r : ℕ) × IsRegisterDay (constants_of system) r d
registered system year d i y =
    let c = constants_of system in
    let n = years_elapsed c year in
    let head = first_head c n (year_in_register system year i.year_inside) in
    (register_day c d, omega (arith, y.from, ap (month_head c) (span_first c (consistent system) y.span)))

-- and a date.
pub dated : (system year r d : ℕ) → InScope system year → IsRegisterDay (constants_of system) r d
    → DayOfYear (constants_of system) (years_elapsed (constants_of system) year) d
    → Dated system r
dated system year r d i is y = go (date_of system r) (date_outcome system r)
  where
    go : (v : DateAnswer) → DateOutcome system r v → Dated system r
    go v (DateOutcome.system_refused w e) = absurd (w i.system_inside)
    go v (DateOutcome.day_refused s w e) = absurd (w (year_day_in_scope system year r d i is y))
    go v (DateOutcome.found f) =
        record {
          year = v.year;
          month = v.month;
          leap = v.leap;
          day = v.day;
          on = record {
            k = f.k;
            in_scope = f.in_scope;
            numbered = f.numbered;
            placed = record { at_least = omega arith; at_most = omega arith };
            day_is = omega (arith, f.day_in_scope.is_day);
          };
        }
