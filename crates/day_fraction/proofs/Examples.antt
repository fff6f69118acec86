-- Fractions and counts, computed.
use Prim.Native.Nat.{ℕ, ◌+◌, ◌-◌, ◌^◌, ◌<◌}
use mathlib.Core.Path.{◌≡◌, refl, sym, ap, ◌∙◌}
use mathlib.Core.Bool.{Bool, true, not, ◌&&◌}
use mathlib.Core.List.{List, [], ◌∷◌, map}
use native.Mathlib.Omega.{arith}
use lib.Dec.{T, eqb, eqb→eq, T_not}
use lib.Ieee.{Float, binary64, of_bits, to_bits, of_int, div, le, lt}
use lib.Ieee.Bits.{of_bits-fits}
use lib.Ieee.Fits.{and_l, and_r}
use Rattle.std.specs.Prelude.{Option, Some, None}
use Rattle.day_fraction.specs.Fraction.{fraction_of}
use Rattle.day_fraction.specs.Settling.{is_fraction, not_above, settled_of, bit}
use Rattle.day_fraction.proofs.Cuts.{cut_of}
use Rattle.day_fraction.proofs.Largest.{largest}
use Rattle.day_fraction.proofs.Ends.{settled_fraction, settled_none}

-- Bit patterns of fractions: of no parts, of one, of a tenth, a third and a half of a day, and of all parts but one.
pub guantian_fractions : map (λ parts. to_bits binary64 (fraction_of 12_030 parts)) (0 ∷ 1 ∷ 1203 ∷ 4010 ∷ 6015 ∷ 12_029 ∷ [])
    ≡ 0 ∷ 4545762005128848015 ∷ 4591870180066957722 ∷ 4599676419421066581 ∷ 4602678819172646912 ∷ 4607181670071899807 ∷ []
unfolding to_bits of_int div
guantian_fractions = refl

pub jiyuan_fractions : map (λ parts. to_bits binary64 (fraction_of 7290 parts)) (0 ∷ 1 ∷ 729 ∷ 2430 ∷ 3645 ∷ 7289 ∷ [])
    ≡ 0 ∷ 4549192859153650643 ∷ 4591870180066957722 ∷ 4599676419421066581 ∷ 4602678819172646912 ∷ 4607181183244564083 ∷ []
unfolding to_bits of_int div
jiyuan_fractions = refl

-- What bit patterns settle to, as a table.
abbrev SettleAs : ℕ → List (ℕ × Option ℕ) → Type 0
SettleAs day [] = Unit {0}
SettleAs day (row ∷ rows) = (settled_of day (of_bits binary64 row.0) ≡ row.1) × SettleAs day rows

-- Tested by the count that a fraction is cut down to and the next: to go through all counts would take too long.
abbrev settles : ℕ → Float → Option ℕ → Bool
settles day f None = not (is_fraction f)
settles day f (Some count) = is_fraction f && eqb (cut_of day f + bit (not_above day f (cut_of day f + 1))) count

abbrev all_settle : ℕ → List (ℕ × Option ℕ) → Bool
all_settle day [] = true
all_settle day (row ∷ rows) = settles day (of_bits binary64 row.0) row.1 && all_settle day rows

module _ (day : ℕ) (some : 0 < day) (few : day < 2 ^ 16) where
  settles_so : (pattern : ℕ) (to : Option ℕ) → T (settles day (of_bits binary64 pattern) to) → settled_of day (of_bits binary64 pattern) ≡ to
  settles_so pattern None t =
      let f = of_bits binary64 pattern in sym (settled_none day f (T_not (is_fraction f) t))
  settles_so pattern (Some count) t =
      let f = of_bits binary64 pattern in
      let found = cut_of day f + bit (not_above day f (cut_of day f + 1)) in
      let is = and_l (is_fraction f) (eqb found count) t in
      sym (settled_fraction day f some is)
      ∙ ap Some (largest day some few f (of_bits-fits binary64 pattern) is ∙ eqb→eq found count (and_r (is_fraction f) (eqb found count) t))

  settle_as : (rows : List (ℕ × Option ℕ)) → T (all_settle day rows) → SettleAs day rows
  settle_as [] t = tt
  settle_as (row ∷ rows) t =
      let one = settles day (of_bits binary64 row.0) row.1 in
      let more = all_settle day rows in
      (settles_so row.0 row.1 (and_l one more t), settle_as rows (and_r one more t))

-- Both zeros and the smallest float; a tenth and a half with the floats beside them; the last float below one. Then one,
-- infinity, not a number, and the largest float below zero, a half and infinity below it.
abbrev rows : ℕ → ℕ → ℕ → List (ℕ × Option ℕ)
rows tenth half last =
    (0, Some 0) ∷ (9223372036854775808, Some 0) ∷ (1, Some 0)
    ∷ (4591870180066957721, Some (tenth - 1)) ∷ (4591870180066957722, Some tenth) ∷ (4591870180066957723, Some tenth)
    ∷ (4602678819172646911, Some (half - 1)) ∷ (4602678819172646912, Some half) ∷ (4602678819172646913, Some half)
    ∷ (4607182418800017407, Some last)
    ∷ (4607182418800017408, None) ∷ (9218868437227405312, None) ∷ (9221120237041090560, None)
    ∷ (9223372036854775809, None) ∷ (13826050856027422720, None) ∷ (18442240474082181120, None)
    ∷ []

pub guantian_settles : SettleAs 12_030 (rows 1203 6015 12_029)
unfolding is_fraction of_bits le lt of_int div
guantian_settles = settle_as 12_030 (omega arith) (omega arith) (rows 1203 6015 12_029) tt

pub jiyuan_settles : SettleAs 7290 (rows 729 3645 7289)
unfolding is_fraction of_bits le lt of_int div
jiyuan_settles = settle_as 7290 (omega arith) (omega arith) (rows 729 3645 7289) tt
