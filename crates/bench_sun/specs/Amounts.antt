-- The amount of a day, 0 where it is refused.
use Rattle.std.specs.Prelude.{ℕ, cond, eqb}
use Rattle.solar_inequality.specs.declared.data.Season.{Season}
use Rattle.solar_inequality.specs.declared.data.Season.TheVariants.{Winter, Summer}
use Rattle.solar_inequality.specs.Answers.{answer_of}

-- 0 is winter, and any other number summer.
abbrev pub season_of : ℕ → Season
season_of number = cond (eqb number 0) Winter Summer

abbrev pub amount_for : ℕ → ℕ → ℕ
amount_for season days = (answer_of (season_of season) days).amount
