-- Lines, computed: of a day, of day 0, and of a refusal.
use Prim.Native.Nat.{ℕ}
use mathlib.Core.Path.{◌≡◌, refl}
use mathlib.Core.List.{List, [], ◌∷◌, ◌++◌}
use Rattle.solar_inequality.specs.declared.data.Season.TheVariants.{Winter, Summer}
use Rattle.solar_inequality.specs.Answers.{taken_of, amount_taken, answer_of}
use Rattle.text.specs.Decimal.{decimal}
use Rattle.text.specs.Piece.{word, field, fields, last_field}
use Rattle.solar_inequality_lines.specs.AmountLine.{day_line, amount_line}

-- "1 536", "0 0" and "182 334"
abbrev day_lines : List ℕ
day_lines =
    49 ∷ 32 ∷ 53 ∷ 51 ∷ 54 ∷ 10 ∷ 48 ∷ 32 ∷ 48 ∷ 10 ∷ 49 ∷ 56 ∷ 50 ∷ 32 ∷ 51 ∷ 51 ∷ 52 ∷ 10 ∷ []

-- "refused 7"
abbrev refused_7 : List ℕ
refused_7 = 114 ∷ 101 ∷ 102 ∷ 117 ∷ 115 ∷ 101 ∷ 100 ∷ 32 ∷ 55 ∷ 10 ∷ []

pub days_told : amount_line Winter 1 ++ (amount_line Summer 0 ++ amount_line Summer 182) ≡ day_lines
unfolding amount_line day_line answer_of taken_of amount_taken decimal field last_field
days_told = refl

pub refusal_told_lem : amount_line Winter 183 ≡ refused_7
unfolding amount_line answer_of decimal word field fields
refusal_told_lem = refl
