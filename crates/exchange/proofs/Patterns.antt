-- Bit patterns of floats.
use Prim.Native.Nat.{ℕ, ◌%◌, ◌≤◌}
use mathlib.Core.Path.{◌≡◌, refl, sym, ap, ◌∙◌}
use mathlib.Core.Bool.{true, false, true≢false, not}
use native.Mathlib.Omega.{arith}
use native.Mathlib.Decide.{dec_lt}
use lib.Dec.{leb}
use lib.Ieee.{Float, nan, inf, fin, binary64, is_nan, nan_bits, of_bits}
use lib.Ieee.Bits.{nan_bits_is, nan_bits_above}
use borrow.Author.Tests.{lt-ltb, le-ltb, lt-leb, le-leb, not-false}

nan_is : (x : Float) → is_nan x ≡ true → x ≡ nan
unfolding is_nan
nan_is nan e = refl
nan_is (inf b) e = absurd (true≢false (sym e))
nan_is (fin b m x) e = absurd (true≢false (sym e))

-- Without its sign, a pattern above that of infinity is not a number, and any other is one.
module _ (pattern : ℕ) where
  pub no_number : not (nan_bits binary64 pattern) ≡ false → of_bits binary64 pattern ≡ nan
  no_number e = nan_is (of_bits binary64 pattern) (sym (nan_bits_is binary64 pattern) ∙ not-false (nan_bits binary64 pattern) e)

  pub not_above_infinity : leb (pattern % 9_223_372_036_854_775_808) 9_218_868_437_227_405_312 ≡ not (nan_bits binary64 pattern)
  not_above_infinity =
      elim (dec_lt 9_218_868_437_227_405_312 (pattern % 9_223_372_036_854_775_808)) [
        | yes h ↦ lt-leb _ _ h ∙ sym (ap not (nan_bits_above binary64 pattern ∙ lt-ltb _ _ h))
        | no h ↦
            let l : pattern % 9_223_372_036_854_775_808 ≤ 9_218_868_437_227_405_312 = omega arith in
            le-leb _ _ l ∙ sym (ap not (nan_bits_above binary64 pattern ∙ le-ltb _ _ l))
      ]
