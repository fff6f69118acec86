-- Decimal numbers: written, with up to ten digits, two digits at a time; and read.
use Rattle.std.specs.Prelude.{ℕ, ◌+◌, ◌*◌, ◌-◌, ◌/◌, ◌%◌, cond, List, [], ◌∷◌, ◌++◌, ltb}

-- The byte of a digit; 48 is '0'.
abbrev pub digit : ℕ → ℕ
digit d = 48 + d

-- Two digits, the first 0 where n is below 10.
abbrev pub two_digits : ℕ → List ℕ
two_digits n = digit (n / 10) ∷ digit (n % 10) ∷ []

-- Four digits, noughts in front where n is small.
abbrev pub four_digits : ℕ → List ℕ
four_digits n = two_digits (n / 100) ++ two_digits (n % 100)

-- One digit or two.
abbrev pub below100 : ℕ → List ℕ
below100 n = cond (ltb n 10) (digit n ∷ []) (two_digits n)

unfoldable pub decimal : ℕ → List ℕ
decimal n =
    cond (ltb n 100) (below100 n)
    (cond (ltb n 10_000) (below100 (n / 100) ++ two_digits (n % 100))
    (cond (ltb n 1_000_000) (below100 (n / 10_000) ++ two_digits (n / 100 % 100) ++ two_digits (n % 100))
    (cond (ltb n 100_000_000)
    (below100 (n / 1_000_000) ++ two_digits (n / 10_000 % 100) ++ two_digits (n / 100 % 100) ++ two_digits (n % 100))
    (below100 (n / 100_000_000)
    ++ two_digits (n / 1_000_000 % 100)
    ++ two_digits (n / 10_000 % 100)
    ++ two_digits (n / 100 % 100)
    ++ two_digits (n % 100)))))

-- The number n with the digits of a text written after it.
unfoldable pub with_digits : ℕ → List ℕ → ℕ
with_digits n [] = n
with_digits n (byte ∷ text) = with_digits (n * 10 + (byte - digit 0)) text

-- The number that a text of digits gives.
abbrev pub number_of : List ℕ → ℕ
number_of text = with_digits 0 text
