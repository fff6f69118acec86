-- The names of days.
use Prim.Native.Nat.{ℕ}
use mathlib.Core.Path.{◌≡◌, refl}
use native.Mathlib.Omega.{arith}
use Rattle.calendar.specs.Inside.{Inside}
use Rattle.calendar.specs.declared.data.Constants.{Constants}
use Rattle.calendar.specs.Systems.{IsRegisterDay}
use Rattle.calendar.specs.SixtyDayName.{name_told, name_of_count_day, name_of}
use Rattle.calendar.specs.Month.{InMonth}
use Rattle.calendar.specs.Consistent.{Consistent}
use Rattle.calendar.proofs.Reckoned.{reckoned}

-- Names are 1 to 60: jiazi, with which the round begins, to guihai.
pub one_to_sixty : (place : ℕ) → Inside 1 60 (name_told place)
one_to_sixty place = record { at_least = omega arith; at_most = omega arith }

pub jiazi_and_guihai : (name_told 0 ≡ 1) × (name_told 59 ≡ 60)
jiazi_and_guihai = (refl, refl)

module _ (c : Constants) (ok : Consistent c) where
  -- The rule for register days agrees with the name of count day 0.
  pub names_agree : (r d : ℕ) → IsRegisterDay c r d → name_of r ≡ name_of_count_day c d
  names_agree r d is = omega (arith, ok.names_agree)

  -- Within a month no name comes twice.
  pub name_once : (k d e : ℕ) → InMonth c k d → InMonth c k e → name_of_count_day c d ≡ name_of_count_day c e → d ≡ e
  name_once k d e p q same = omega (arith, p, q, (reckoned c ok).month_most k)
