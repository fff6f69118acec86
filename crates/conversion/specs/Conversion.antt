-- The conversion of a record of kind 2, which cited a day by its name counted from 0, into kind 5: paper 02, Q-7.
use Rattle.std.specs.Prelude.{ℕ, ◌+◌, ◌*◌, ◌^◌, ◌<◌, ◌≡◌, cond, List, [], ◌∷◌, ◌++◌, ltb, eqb, length, set, drop}
use Rattle.reckoning.specs.RefusalNumbers.{SHORT, KIND, LENGTH, DAY, OUTPUT}
use Rattle.reckoning.specs.WordedRefusals.{Row, ◌when◌}
use Rattle.citation.specs.Record.{kind_of, name_field}
use Rattle.citation.specs.CitationRefusals.{TooShort, WrongLength, NoRoom}
use Rattle.citation.specs.Store.{length_right}

-- Its refusals, in their order: KIND where the kind is not 2, DAY where the name is above 59. SHORT, LENGTH and OUTPUT
-- are those of a storing.
abbrev pub conversion_rows : List ℕ → ℕ → List Row
conversion_rows s room =
    SHORT when TooShort s ∷ KIND when (kind_of s ≡ 2 → ⊥)
    ∷ LENGTH when WrongLength s ∷ DAY when (59 < name_field s) ∷ OUTPUT when NoRoom room ∷ []

-- The refusal of a record by its bytes, 0 where there is none,
unfoldable pub conversion_refusal : List ℕ → ℕ
conversion_refusal s =
    cond (ltb (length s) 4)
    SHORT
    (cond (eqb (kind_of s) 2)
    (cond (length_right s)
    (cond (ltb 59 (name_field s)) DAY 0)
    LENGTH)
    KIND)

-- and of a conversion: then OUTPUT where the output has fewer than 10 bytes.
unfoldable pub refusal_into : List ℕ → ℕ → ℕ
refusal_into s room = cond (eqb (conversion_refusal s) 0) (cond (ltb room 10) OUTPUT 0) (conversion_refusal s)

-- Byte 2 becomes 5, and the name rises by one.
abbrev pub converted : List ℕ → List ℕ
converted s = set (set s 2 5) 9 (name_field s + 1)

-- The answer: 2^32 times the refusal number.
abbrev pub conversion_answer : List ℕ → ℕ → ℕ
conversion_answer s room = 2 ^ 32 * refusal_into s room

-- The output afterwards: the converted record in the first ten bytes and the rest left; where refused, as it was.
unfoldable pub converted_into : List ℕ → List ℕ → List ℕ
converted_into s before = cond (eqb (refusal_into s (length before)) 0) (converted s ++ drop 10 before) before

-- A record in its place: converted, or as it was where the conversion refuses it;
unfoldable pub renewed : List ℕ → List ℕ
renewed s = cond (eqb (conversion_refusal s) 0) (converted s) s

-- and the refusal of one that is left, 0 of one that is converted or of another kind.
unfoldable pub left_with : List ℕ → ℕ
left_with s = cond (eqb (conversion_refusal s) KIND) 0 (conversion_refusal s)
