-- Records of the retired kind 2 renewed where they stand in an input: paper 02, Q-7.
use Rattle.std.specs.Prelude.{ℕ, ◌-◌, Bool, false, not, ◌||◌, List, [], ◌∷◌, eqb, length}
use Rattle.conversion.specs.Conversion.{renewed, left_with}
use Rattle.framing.specs.Framing.{framing, rest_of}
use Rattle.framing.specs.Run.{Writer, whole_by}
use Rattle.renewal.specs.declared.Renewal.{Renewal}

-- Each record renewed, and what is no record as it was.
abbrev pub renewer : Writer
renewer = record { of = renewed; ending = λ rest. rest; after = λ bytes. bytes }

abbrev pub renewed_of : List ℕ → List ℕ
renewed_of s = whole_by renewer s

-- A record of kind 2 was refused, and left as it was.
unfoldable pub any_refused : List (List ℕ) → Bool
any_refused [] = false
any_refused (r ∷ records) = not (eqb (left_with r) 0) || any_refused records

-- How many bytes the records have, and whether one of kind 2 was refused.
unfoldable pub renewal_of : List ℕ → Renewal
renewal_of s = record { read = length s - length (rest_of s); refused = any_refused (framing s).records }
