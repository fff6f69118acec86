-- A register day has one date in a system.
use Prim.Native.Nat.{ℕ, ◌+◌, ◌-◌}
use mathlib.Core.Path.{◌≡◌, ap, sym, ◌∙◌}
use native.Mathlib.Omega.{arith}
use Rattle.calendar.specs.declared.data.Constants.{Constants}
use Rattle.calendar.specs.Consistent.{Consistent}
use Rattle.calendar.specs.Calendar.{Calendar}
use Rattle.calendar.specs.Systems.{constants_of, years_elapsed, count_day}
use Rattle.calendar.specs.Month.{month_head, InMonth}
use Rattle.calendar.specs.ClosedForms.{month_of_day, year_of_month, month_number, leap_mark}
use Rattle.calendar.proofs.EachSystem.{consistent}
use Rattle.calendar.proofs.Reckoned.{reckoned}
use Rattle.calendar.proofs.Spans.{within}
use Rattle.calendar.proofs.EveryCalendar.{month_unique, year_unique}
use Rattle.calendar.proofs.Numbers.{number_unique, mark_unique}
use Rattle.citation.specs.Record.{record_of}
use Rattle.citation.specs.DayCited.{OnDate}

module _ (system : ℕ) where
  abbrev c : Constants
  c = constants_of system

  abbrev ok : Consistent c
  ok = consistent system

  abbrev K : Calendar
  K = reckoned c ok

  -- The day's own month, and what it says of the date.
  pub record Settled (r year month leap day : ℕ) : Type 0 where
    pub year_is : years_elapsed c year ≡ year_of_month c (month_of_day c (count_day c r))
    pub month_is : month ≡ month_number c (month_of_day c (count_day c r))
    pub leap_is : leap ≡ leap_mark c (month_of_day c (count_day c r))
    pub day_is : day ≡ count_day c r - month_head c (month_of_day c (count_day c r)) + 1

  settled : (r year month leap day : ℕ) → OnDate system r year month leap day → Settled r year month leap day
  settled r year month leap day d =
      let k = d.k in
      let in_month : InMonth c k (count_day c r) = (omega (arith, d.placed, d.day_is), omega (arith, d.placed, d.day_is)) in
      let e : k ≡ month_of_day c (count_day c r) = month_unique K k (count_day c r) in_month.0 in_month.1 in
      record {
        year_is = year_unique K (years_elapsed c year) k (within c ok (years_elapsed c year) k d.numbered.in_year) ∙ ap (year_of_month c) e;
        month_is = number_unique c ok d.numbered.bears ∙ ap (month_number c) e;
        leap_is = mark_unique c ok d.numbered.marked ∙ ap (leap_mark c) e;
        day_is = omega (arith, d.placed, d.day_is, ap (month_head c) e);
      }

  -- Two dates of a day are written alike.
  pub record_unique : (r year month leap day year' month' leap' day' : ℕ)
      → OnDate system r year month leap day
      → OnDate system r year' month' leap' day'
      → record_of system year month leap day ≡ record_of system year' month' leap' day'
  record_unique r year month leap day year' month' leap' day' d d' =
      let p = settled r year month leap day d in
      let q = settled r year' month' leap' day' d' in
      let y : year ≡ year' = omega (arith, p.year_is, q.year_is, ok.epoch_before) in
      let m : month ≡ month' = p.month_is ∙ sym q.month_is in
      let l : leap ≡ leap' = p.leap_is ∙ sym q.leap_is in
      let x : day ≡ day' = p.day_is ∙ sym q.day_is in
      λ i. record_of system (y i) (m i) (l i) (x i)
