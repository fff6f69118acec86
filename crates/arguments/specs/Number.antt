-- A decimal argument.
use Rattle.std.specs.Prelude.{ℕ, min, Bool, true, false, cond, ◌&&◌, List, [], ◌∷◌, leb, Option, Some, None}
use Rattle.text.specs.Decimal.{digit, number_of}

-- The largest number told, of 32 bits; larger ones are taken as it.
abbrev pub most : ℕ
most = 4_294_967_295

-- The byte of one of the ten digits.
abbrev pub is_digit : ℕ → Bool
is_digit byte = leb (digit 0) byte && leb byte (digit 9)

unfoldable pub all_digits : List ℕ → Bool
all_digits [] = true
all_digits (byte ∷ text) = is_digit byte && all_digits text

-- A number is one digit or more and nothing else.
unfoldable pub is_number : List ℕ → Bool
is_number [] = false
is_number (byte ∷ text) = all_digits (byte ∷ text)

unfoldable pub argument_of : List ℕ → Option ℕ
argument_of text = cond (is_number text) (Some (min most (number_of text))) None
