-- The numbers of a range, by what its ends are.
use Prim.Native.Nat.{ℕ, min}
use mathlib.Core.Path.{◌≡◌, sym, ap, ap₂, ◌∙◌}
use mathlib.Core.Bool.{Bool, true, false, cond, ◌&&◌, and-false}
use mathlib.Core.List.{List}
use Rattle.std.specs.Prelude.{Option, Some, None}
use Rattle.arguments.specs.declared.ranges.Range.{Range}
use Rattle.text.specs.Decimal.{number_of}
use Rattle.arguments.specs.Number.{most, all_digits, is_number, argument_of}
use Rattle.arguments.specs.Ranges.{count_of, range_of}
use Rattle.arguments.proofs.Digits.{no_number, a_number, its_value, number_digits}

module _ (first last : List ℕ) where
  abbrev range_if : Bool → Option Range
  range_if b = cond b (Some (record { first = min most (number_of first); count = count_of first last })) None

  ruled : (b : Bool) → (is_number first && is_number last) ≡ b → range_if b ≡ range_of first last
  unfolding range_of
  ruled b e = ap range_if (sym e)

  pub no_first : argument_of first ≡ None → None ≡ range_of first last
  no_first e = ruled false (ap (λ b. b && is_number last) (no_number first e))

  pub no_last : argument_of last ≡ None → None ≡ range_of first last
  no_last e = ruled false (ap (λ b. is_number first && b) (no_number last e) ∙ and-false (is_number first))

  module _ (n m : ℕ) (f : argument_of first ≡ Some n) (l : argument_of last ≡ Some m) where
    pub range_digits : (all_digits first ≡ true) × (all_digits last ≡ true)
    range_digits = (number_digits first (a_number first n f), number_digits last (a_number last m l))

    pub a_range : (count : ℕ) → count ≡ count_of first last → Some (record { first = n; count = count }) ≡ range_of first last
    a_range count e =
        ap₂ (λ f c. Some (record { first = f; count = c })) (its_value first n f) e ∙ ruled true (ap₂ (λ b d. b && d) (a_number first n f) (a_number last m l))
