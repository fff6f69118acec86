-- The months of a year: the worded rule and the closed form agree.
use Prim.Native.Nat.{ℕ, ◌+◌}
use mathlib.Core.Path.{◌≡◌, subst, ap, ◌∙◌}
use native.Mathlib.Omega.{arith}
use Rattle.calendar.specs.declared.data.Constants.{Constants}
use Rattle.calendar.specs.Steps.{solstice_day}
use Rattle.calendar.specs.Month.{InMonth}
use Rattle.calendar.specs.Year.{Begins, Span, InYear}
use Rattle.calendar.specs.Consistent.{Consistent}
use Rattle.calendar.specs.Calendar.{Calendar}
use Rattle.calendar.specs.ClosedForms.{month_of_day, first_month}
use Rattle.calendar.proofs.EveryCalendar.{Within, month_unique}
use Rattle.calendar.proofs.Reckoned.{reckoned}
use Rattle.calendar.proofs.Steps.{first_step_day}

module _ (c : Constants) (ok : Consistent c) where
  abbrev K : Calendar
  K = reckoned c ok

  month_of_solstice : (n : ℕ) → month_of_day c (solstice_day c n) ≡ first_month c n
  month_of_solstice n = ap (month_of_day c) (first_step_day c 12 n (omega arith))

  pub begins : (n : ℕ) → Begins c n (first_month c n)
  begins n =
      let d = solstice_day c n in
      subst (λ k. InMonth c k d) (month_of_solstice n) (K.day_from d, K.day_before d)

  pub begins_unique : (n k : ℕ) → Begins c n k → k ≡ first_month c n
  begins_unique n k b = month_unique K k (solstice_day c n) b.0 b.1 ∙ month_of_solstice n

  -- every year has its bounds, and no other
  abbrev pub span : (n : ℕ) → Span c n
  span n = record { first = first_month c n; next = first_month c (n + 1); begins = begins n; ends = begins (n + 1) }

  pub span_first : {n : ℕ} (y : Span c n) → y.first ≡ first_month c n
  span_first {n} y = begins_unique n y.first y.begins

  pub span_next : {n : ℕ} (y : Span c n) → y.next ≡ first_month c (n + 1)
  span_next {n} y = begins_unique (n + 1) y.next y.ends

  pub in_year : (n k : ℕ) → Within K n k → InYear c n k
  in_year n k w = record { span = span n; from = w.0; before = w.1 }

  pub within : (n k : ℕ) → InYear c n k → Within K n k
  within n k i = (omega (arith, span_first i.span, i.from), omega (arith, span_next i.span, i.before))
