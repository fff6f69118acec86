-- A stored record is itself a citation: of kind 1, accepted, and naming the same day in the same system.
use Prim.Native.Nat.{ℕ, zero, suc, ◌<◌}
use mathlib.Core.Path.{◌≡◌, refl, subst, sym}
use mathlib.Core.Logic.{inr, ⊎_elim}
use mathlib.Core.List.{List, [], ◌∷◌}
use native.Mathlib.Omega.{arith}
use Rattle.calendar.specs.declared.data.Constants.{Constants}
use Rattle.calendar.specs.Consistent.{Consistent}
use Rattle.calendar.specs.Systems.{constants_of, years_elapsed}
use Rattle.calendar.specs.Year.{MonthNumbered}
use Rattle.calendar.proofs.EachSystem.{consistent}
use Rattle.calendar.proofs.Reckoned.{reckoned}
use Rattle.calendar.proofs.Laws.{number_inside, mark_inside}
use Rattle.reckoning.specs.Scope.{InScope}
use Rattle.little_endian.specs.Bytes.{Bytes}
use Rattle.citation.specs.Record.{year_field, record_of}
use Rattle.citation.specs.DayCited.{elapsed_in, CitedMonth, NamesDay, OnDate}
use Rattle.citation.specs.CitationRefusals.{TooShort, WrongKind, RetiredKind, WrongLength}
use Rattle.citation.specs.CitationRefusals.{Placed, NotPlaced, Accepted}
use Rattle.citation.proofs.JudgedByKind.{MonthRight, place_rows}

-- Bytes, one by one.
abbrev EachByte : List ℕ → Type 0
EachByte [] = Unit {0}
EachByte (x ∷ t) = (x < 256) × EachByte t

each_byte : (t : List ℕ) → EachByte t → Bytes t
each_byte [] b i = omega arith
each_byte (x ∷ t) b zero = b.0
each_byte (x ∷ t) b (suc i) = each_byte t b.1 i

module _ (system r year month leap day : ℕ) (d : OnDate system r year month leap day) where
  abbrev c : Constants
  c = constants_of system

  abbrev ok : Consistent c
  ok = consistent system

  abbrev rec : List ℕ
  rec = record_of system year month leap day

  -- the two bytes of the year are read back as the year
  year_read : year_field rec ≡ year
  year_read = omega arith

  month_read : CitedMonth rec d.k
  month_read = subst (λ y. MonthNumbered c (years_elapsed c y) month leap d.k) (sym year_read) d.numbered

  long_enough : TooShort rec → ⊥
  long_enough w = omega arith

  kind_right : WrongKind rec → ⊥
  kind_right w = w (record { at_least = omega arith; at_most = omega arith })

  not_retired : RetiredKind rec → ⊥
  not_retired two = omega arith

  length_right_lem : WrongLength rec → ⊥
  length_right_lem w = w (refl, refl)

  in_scope : InScope system (year_field rec)
  in_scope = subst (InScope system) (sym year_read) d.in_scope

  month_right : MonthRight rec
  month_right = (
    λ w.
        ⊎_elim
        (λ v. v (number_inside c ok (elapsed_in rec) month leap d.k month_read))
        (λ v. v (mark_inside c ok (elapsed_in rec) month leap d.k month_read))
        w.1,
    λ w.
        w.1.1
        (record { month = d.k; is_leap = subst (λ x. MonthNumbered c (elapsed_in rec) month x d.k) w.1.0 month_read }),
  )

  place_right : NotPlaced rec → ⊥
  place_right w = w (Placed.day_in_month refl d.k month_read d.placed)

  pub record_accepted : Accepted rec
  record_accepted =
      inr (
        long_enough,
        inr (kind_right, inr (not_retired, inr (length_right_lem, place_rows rec in_scope month_right (inr (place_right, refl))))),
      )

  pub record_names : NamesDay rec r
  record_names = NamesDay.by_day refl d.k month_read d.day_is

  pub record_bytes_lem : Bytes rec
  record_bytes_lem =
      let year_small = d.in_scope.year_inside in
      let month_small = number_inside c ok (elapsed_in rec) month leap d.k month_read in
      let mark_small = mark_inside c ok (elapsed_in rec) month leap d.k month_read in
      let day_small = (reckoned c ok).month_most d.k in
      let system_small = d.in_scope.system_inside in
      let placed = d.placed in
      each_byte rec (omega arith)
