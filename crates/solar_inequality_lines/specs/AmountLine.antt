-- What the almanac prints of the sun's excess and shortfall, as bytes.
use Rattle.std.specs.Prelude.{ℕ, Some, List, ◌++◌}
use Rattle.solar_inequality.specs.declared.data.Season.{Season}
use Rattle.solar_inequality.specs.Answers.{answer_of}
use Rattle.text.specs.Decimal.{decimal}
use Rattle.text.specs.Piece.{last_field, told_unless}

-- A day and its amount.
unfoldable pub day_line : ℕ → ℕ → List ℕ
day_line days amount = decimal days ++ last_field (Some amount)

-- The amount on a day, or the line of its refusal.
unfoldable pub amount_line : Season → ℕ → List ℕ
amount_line season days =
    let answer = answer_of season days in
    told_unless answer.refusal (day_line days answer.amount)
