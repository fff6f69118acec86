-- The record formats of the kinds: paper 01, "Citation records", and paper 02, Q-7. Numbers are little-endian.
use Rattle.std.specs.Prelude.{ℕ, ◌/◌, ◌%◌, cond, List, [], ◌∷◌}
use Rattle.reckoning.specs.ComputedRefusals.{outside}
use Rattle.little_endian.specs.Number.{le16, le32}
use Rattle.little_endian.specs.Bytes.{byte}

-- Bytes 0 and 1: the length of the whole record. Bytes 2 and 3: the kind. Byte 4: the system.
abbrev pub length_field : List ℕ → ℕ
length_field s = le16 (byte s 0) (byte s 1)

abbrev pub kind_of : List ℕ → ℕ
kind_of s = le16 (byte s 2) (byte s 3)

abbrev pub system_of : List ℕ → ℕ
system_of s = byte s 4

-- Kinds 3 and 4 are nine bytes long; kinds 1 and 5, and the retired kind 2, ten.
abbrev pub kind_length : ℕ → ℕ
kind_length kind = cond (outside 3 4 kind) 10 9

-- Kinds 1, 3 and 5: the year after byte 4.
abbrev pub year_field : List ℕ → ℕ
year_field s = le16 (byte s 5) (byte s 6)

-- Kinds 1 and 5: then the month, the leap mark, and the day of the month (kind 1) or the name (kind 5).
abbrev pub month_field : List ℕ → ℕ
month_field s = byte s 7

abbrev pub leap_field : List ℕ → ℕ
leap_field s = byte s 8

abbrev pub day_field : List ℕ → ℕ
day_field s = byte s 9

abbrev pub name_field : List ℕ → ℕ
name_field s = byte s 9

-- Kind 3: then the ordinal.
abbrev pub ordinal_field : List ℕ → ℕ
ordinal_field s = le16 (byte s 7) (byte s 8)

-- Kind 4: the register day after byte 4.
abbrev pub register_day_field : List ℕ → ℕ
register_day_field s = le32 (byte s 5) (byte s 6) (byte s 7) (byte s 8)

-- The kind 1 record of a date.
abbrev pub record_of : ℕ → ℕ → ℕ → ℕ → ℕ → List ℕ
record_of system year month leap day =
    10 ∷ 0 ∷ 1 ∷ 0 ∷ system ∷ (year % 256) ∷ (year / 256) ∷ month ∷ leap ∷ day ∷ []
