-- Little-endian numbers: the lowest byte comes first.
use Rattle.std.specs.Prelude.{ℕ, ◌+◌, ◌*◌, ◌/◌, ◌%◌, ◌^◌, List, [], ◌∷◌, ◌++◌}

-- A number of two bytes,
abbrev pub le16 : ℕ → ℕ → ℕ
le16 low high = low + 256 * high

-- of four,
abbrev pub le32 : ℕ → ℕ → ℕ → ℕ → ℕ
le32 b0 b1 b2 b3 = le16 b0 b1 + 65_536 * le16 b2 b3

-- and of eight.
abbrev pub le64 : ℕ → ℕ → ℕ → ℕ → ℕ → ℕ → ℕ → ℕ → ℕ
le64 b0 b1 b2 b3 b4 b5 b6 b7 = le32 b0 b1 b2 b3 + 2 ^ 32 * le32 b4 b5 b6 b7

-- The four bytes of a number below 2^32,
abbrev pub bytes4 : ℕ → List ℕ
bytes4 n = (n % 256) ∷ (n / 256 % 256) ∷ (n / 65_536 % 256) ∷ (n / 16_777_216 % 256) ∷ []

-- and the eight of one below 2^64.
abbrev pub bytes8 : ℕ → List ℕ
bytes8 n = bytes4 (n % 2 ^ 32) ++ bytes4 (n / 2 ^ 32)
