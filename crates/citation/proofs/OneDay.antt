-- A citation names one day at most.
use Prim.Native.Nat.{ℕ}
use mathlib.Core.Path.{◌≡◌, ap, sym, ◌∙◌, subst}
use mathlib.Core.List.{List}
use native.Mathlib.Omega.{arith}
use Rattle.calendar.specs.declared.data.Constants.{Constants}
use Rattle.calendar.specs.Consistent.{Consistent}
use Rattle.calendar.specs.Systems.{IsRegisterDay}
use Rattle.calendar.specs.SixtyDayName.{name_of}
use Rattle.calendar.specs.Month.{month_head, InMonth}
use Rattle.calendar.proofs.EachSystem.{consistent}
use Rattle.calendar.proofs.Reckoned.{reckoned}
use Rattle.calendar.proofs.Spans.{span_first}
use Rattle.calendar.proofs.Laws.{numbered_unique}
use Rattle.citation.specs.Record.{system_of, month_field, leap_field}
use Rattle.citation.specs.DayCited.{constants_in, elapsed_in, CitedMonth, NamesDay}

module _ (s : List ℕ) where
  abbrev c : Constants
  c = constants_in s

  abbrev ok : Consistent c
  ok = consistent (system_of s)

  pub month_once : (k l : ℕ) → CitedMonth s k → CitedMonth s l → k ≡ l
  month_once k l m o = numbered_unique c ok (elapsed_in s) (month_field s) (leap_field s) k l m o

  -- within a month no name comes twice, of register days too
  name_once : (k d x r q : ℕ) → InMonth c k d → InMonth c k x → IsRegisterDay c r d → IsRegisterDay c q x → name_of r ≡ name_of q
      → r ≡ q
  name_once k d x r q a b p o e = omega (arith, a, b, (reckoned c ok).month_most k)

  pub names_unique : (r q : ℕ) → NamesDay s r → NamesDay s q → r ≡ q
  names_unique r q (NamesDay.by_day e k m d) (NamesDay.by_day f l o g) = omega (arith, ap (month_head c) (month_once k l m o))
  names_unique r q (NamesDay.by_day e k m d) (NamesDay.by_name f l x o g p h) = absurd (omega arith)
  names_unique r q (NamesDay.by_day e k m d) (NamesDay.by_ordinal f y g) = absurd (omega arith)
  names_unique r q (NamesDay.by_day e k m d) (NamesDay.by_register_day f g) = absurd (omega arith)
  names_unique r q (NamesDay.by_name e k x m i p n) (NamesDay.by_day f l o g) = absurd (omega arith)
  names_unique r q (NamesDay.by_name e k d m i p n) (NamesDay.by_name f l x o g w h) =
      name_once k d x r q i (subst (λ z. InMonth c z x) (sym (month_once k l m o)) g) p w (n ∙ sym h)
  names_unique r q (NamesDay.by_name e k x m i p n) (NamesDay.by_ordinal f y g) = absurd (omega arith)
  names_unique r q (NamesDay.by_name e k x m i p n) (NamesDay.by_register_day f g) = absurd (omega arith)
  names_unique r q (NamesDay.by_ordinal e x d) (NamesDay.by_day f l o g) = absurd (omega arith)
  names_unique r q (NamesDay.by_ordinal e x d) (NamesDay.by_name f l b o g p h) = absurd (omega arith)
  names_unique r q (NamesDay.by_ordinal e x d) (NamesDay.by_ordinal f y g) =
      omega (arith, ap (month_head c) (span_first c ok x ∙ sym (span_first c ok y)))
  names_unique r q (NamesDay.by_ordinal e x d) (NamesDay.by_register_day f g) = absurd (omega arith)
  names_unique r q (NamesDay.by_register_day e d) (NamesDay.by_day f l o g) = absurd (omega arith)
  names_unique r q (NamesDay.by_register_day e d) (NamesDay.by_name f l x o g p h) = absurd (omega arith)
  names_unique r q (NamesDay.by_register_day e d) (NamesDay.by_ordinal f y g) = absurd (omega arith)
  names_unique r q (NamesDay.by_register_day e d) (NamesDay.by_register_day f g) = d ∙ sym g
