-- Conversions, computed: the record of kind 2 in paper 01's case 9, as paper 02, Q-2, had it, with what is left of the
-- output; then one of another kind, one of nine bytes, one with name 60, and an output of nine bytes.
use Prim.Native.Nat.{ℕ, ◌*◌, ◌^◌}
use mathlib.Core.Path.{◌≡◌, refl}
use mathlib.Core.List.{List, [], ◌∷◌}
use Rattle.citation.specs.Store.{length_right}
use Rattle.conversion.specs.Conversion.{conversion_refusal, refusal_into, conversion_answer, converted_into}

pub cited_by_name : ℕ → ℕ → List ℕ
cited_by_name kind name =
    0x0A ∷ 0x00 ∷ kind ∷ 0x00 ∷ 0x01 ∷ 0x46 ∷ 0x04 ∷ 0x05 ∷ 0x00 ∷ name ∷ []

pub examples : (converted_into (cited_by_name 2 0x25) (9 ∷ 9 ∷ 9 ∷ 9 ∷ 9 ∷ 9 ∷ 9 ∷ 9 ∷ 9 ∷ 9 ∷ 9 ∷ [])
    ≡ 0x0A ∷ 0x00 ∷ 0x05 ∷ 0x00 ∷ 0x01 ∷ 0x46 ∷ 0x04 ∷ 0x05 ∷ 0x00 ∷ 0x26 ∷ 9 ∷ [])
    × (conversion_answer (cited_by_name 2 0x25) 10 ≡ 0)
    × (conversion_answer (cited_by_name 5 0x26) 10 ≡ 2 * 2 ^ 32)
    × (conversion_answer (9 ∷ 0 ∷ 2 ∷ 0 ∷ 1 ∷ 0x46 ∷ 0x04 ∷ 5 ∷ 0 ∷ []) 10 ≡ 3 * 2 ^ 32)
    × (conversion_answer (cited_by_name 2 60) 9 ≡ 7 * 2 ^ 32)
    × (conversion_answer (cited_by_name 2 59) 9 ≡ 8 * 2 ^ 32)
unfolding cited_by_name converted_into refusal_into conversion_refusal length_right
examples = (refl, refl, refl, refl, refl, refl)
