-- How long the pieces of a line are at most.
use Prim.Native.Nat.{ℕ, ◌+◌, ◌*◌, ◌/◌, ◌≤◌}
use mathlib.Core.List.{List, [], ◌∷◌, ◌++◌}
use native.Mathlib.Omega.{arith}
use lib.ListN.{length, length-append}
use borrow.Author.Tests.{lt-ltb, le-ltb, eq-eqb, ne_eqb}
use Rattle.calendar.proofs.Rising.{by_order}
use Rattle.text.specs.Decimal.{below100, decimal}
use Rattle.text.specs.Piece.{word, field, year, star, month, fields, newline, line}

below_100_length : (n : ℕ) → length (below100 n) ≤ 2
below_100_length n =
    by_order n 10 (λ h. simp (lt-ltb n 10 h) (omega arith)) (λ h. simp (le-ltb n 10 h) (omega arith))

-- Ten digits at most, of any number.
pub decimal_length : (n : ℕ) → length (decimal n) ≤ 10
unfolding decimal
decimal_length n =
    by_order n 100
    (λ a. simp (lt-ltb n 100 a) (omega (arith, below_100_length n)))
    (λ a.
    by_order n 10_000
    (λ b.
    simp (le-ltb n 100 a, lt-ltb n 10_000 b, length-append) (omega (arith, below_100_length (n / 100))))
    (λ b.
    by_order n 1_000_000
    (λ c.
    simp (le-ltb n 100 a, le-ltb n 10_000 b, lt-ltb n 1_000_000 c, length-append)
    (omega (arith, below_100_length (n / 10_000))))
    (λ c.
    by_order n 100_000_000
    (λ d.
    simp (le-ltb n 100 a, le-ltb n 10_000 b, le-ltb n 1_000_000 c, lt-ltb n 100_000_000 d, length-append)
    (omega (arith, below_100_length (n / 1_000_000))))
    (λ d.
    simp (le-ltb n 100 a, le-ltb n 10_000 b, le-ltb n 1_000_000 c, le-ltb n 100_000_000 d, length-append)
    (omega (arith, below_100_length (n / 100_000_000)))))))

pub field_length : (n : ℕ) → length (field n) ≤ 11
unfolding field
field_length n = omega (arith, decimal_length n)

pub year_length_lem : (system n : ℕ) → length (year system n) ≤ 12
unfolding year
year_length_lem system n = omega (arith, field_length n)

star_length : (leap : ℕ) → length (star leap) ≤ 1
star_length leap =
    by_order leap 1
    (λ h. let none = eq-eqb leap 0 (omega arith) in simp none (omega arith))
    (λ h. let some = ne_eqb leap 0 (λ z. omega arith) in simp some (omega arith))

pub month_length_lem : (number leap : ℕ) → length (month number leap) ≤ 12
unfolding month
month_length_lem number leap =
    omega (arith, length-append (field number) (star leap), field_length number, star_length leap)

pub fields_length : (numbers : List ℕ) → length (fields numbers) ≤ 11 * length numbers
unfolding fields
fields_length [] = omega arith
fields_length (n ∷ numbers) =
    omega (arith, length-append (field n) (fields numbers), field_length n, fields_length numbers)

pub line_length : (bytes numbers : List ℕ) → length (line bytes numbers) ≤ length bytes + 11 * length numbers + 1
unfolding word
line_length bytes numbers =
    omega (
      arith,
      length-append bytes (fields numbers ++ newline),
      length-append (fields numbers) newline,
      fields_length numbers,
    )
