-- What the laws say of a year within the register.
use Prim.Native.Nat.{ℕ, ◌+◌, ◌-◌, ◌^◌, ◌≤◌, ◌<◌}
use mathlib.Core.Path.{◌≡◌, subst, sym}
use native.Mathlib.Omega.{arith}
use Rattle.calendar.specs.declared.data.Constants.{Constants}
use Rattle.calendar.specs.Systems.{years_elapsed, register_day}
use Rattle.calendar.specs.ClosedForms.{first_month, head_of_year}
use Rattle.calendar.specs.Consistent.{Consistent}
use Rattle.calendar.specs.Calendar.{Calendar}
use Rattle.calendar.proofs.Reckoned.{reckoned}
use Rattle.calendar.proofs.EveryCalendar.{count_least, count_most, head_monotone}
use Rattle.calendar.proofs.Spans.{span}
use Rattle.calendar.proofs.Laws.{year_length_most}
use Rattle.reckoning.specs.Scope.{YearInScope}
use Rattle.reckoning.specs.WordBounds.{InRegister, YearInRegister, YearsInRegister, MonthsInRegister}

-- Years elapsed at a year in scope.
pub year_asked : {c : Constants} → YearsInRegister c → {year n : ℕ} → YearInScope year → n ≡ years_elapsed c year
    → YearInRegister c n
year_asked {c} fits {year} s is = subst (YearInRegister c) (sym is) (fits.in_register year s)

module _ (c : Constants) (n : ℕ) (r : YearInRegister c n) where
  abbrev ok : Consistent c
  ok = r.constants_fit.consistent

  abbrev K : Calendar
  K = reckoned c ok

  pub first_small : first_month c n < 2 ^ 31
  first_small = omega (arith, count_least K n, r.months)

  -- its months can be listed
  pub months_in_register : MonthsInRegister c (first_month c n) (first_month c (n + 1) - first_month c n)
  months_in_register =
      let least = count_least K n in
      let most = count_most K n in
      record {
        constants_fit = r.constants_fit;
        first_small = first_small;
        count_most = omega arith;
        head = λ i h. r.head (first_month c n + i) (omega arith) (omega arith);
      }

  pub first_head : InRegister c (head_of_year c n)
  first_head = r.head (first_month c n) (omega arith) (omega (arith, count_least K n))

  pub next_head_lem : InRegister c (head_of_year c (n + 1))
  next_head_lem = r.head (first_month c (n + 1)) (omega (arith, count_least K n)) (omega arith)

  length_most : head_of_year c (n + 1) ≤ head_of_year c n + 384
  length_most = omega (arith, year_length_most c ok (span c ok n))

  -- its heads rise in the register too, by 384 at most
  pub register_rises : register_day c (head_of_year c n) ≤ register_day c (head_of_year c (n + 1))
  register_rises =
      let l : head_of_year c n ≤ head_of_year c (n + 1) = head_monotone K (omega (arith, count_least K n)) in
      omega arith

  pub register_length_most : register_day c (head_of_year c (n + 1)) - register_day c (head_of_year c n) ≤ 384
  register_length_most = omega (arith, length_most, first_head, next_head_lem)
