-- Bytes by their place.
use Rattle.std.specs.Prelude.{ℕ, ◌<◌, List, get_or}

-- The byte at place i.
abbrev pub byte : List ℕ → ℕ → ℕ
byte s i = get_or s i 0

-- Every element of a list is a byte.
abbrev pub Bytes : List ℕ → Type 0
Bytes s = (i : ℕ) → byte s i < 256
