-- A row of the observatory's list: paper 02, Q-11. It has 13 bytes, and numbers are little-endian.
use Rattle.std.specs.Prelude.{ℕ, ◌+◌, ◌*◌, List, ◌∷◌, ◌++◌, Float}
use Rattle.std.specs.Float.{binary64}
use Rattle.std.specs.Float.Ieee.{of_bits, to_bits}
use Rattle.little_endian.specs.Bytes.{byte}
use Rattle.little_endian.specs.Number.{le16, le32, le64, bytes4, bytes8}

-- "Register day (4), a tag, eight bytes of time."
abbrev pub day_field : List ℕ → ℕ
day_field s = le32 (byte s 0) (byte s 1) (byte s 2) (byte s 3)

abbrev pub tag_field : List ℕ → ℕ
tag_field s = byte s 4

-- "Tag 1: a 64-bit float, the fraction of the day", by its bit pattern.
abbrev pub pattern_field : List ℕ → ℕ
pattern_field s = le64 (byte s 5) (byte s 6) (byte s 7) (byte s 8) (byte s 9) (byte s 10) (byte s 11) (byte s 12)

abbrev pub fraction_field : List ℕ → Float
fraction_field s = of_bits binary64 (pattern_field s)

-- "Tag 2: whole parts in the first two bytes, six zero bytes."
abbrev pub parts_field : List ℕ → ℕ
parts_field s = le16 (byte s 5) (byte s 6)

-- The six bytes after the parts, as one number.
abbrev pub filler_field : List ℕ → ℕ
filler_field s = le16 (byte s 7) (byte s 8) + 65_536 * le32 (byte s 9) (byte s 10) (byte s 11) (byte s 12)

-- "Export always writes tag 1."
abbrev pub row_of : ℕ → Float → List ℕ
row_of day fraction = bytes4 day ++ (1 ∷ bytes8 (to_bits binary64 fraction))
