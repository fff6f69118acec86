-- Tables of refusals in words: the first row that applies is given, and none otherwise.
use Rattle.std.specs.Prelude.{ℕ, ◌<◌, ◌≡◌, ◌⊎◌, List, [], ◌∷◌, ◌++◌}
use Rattle.reckoning.specs.RefusalNumbers.{SYSTEM, YEAR, STEP}
use Rattle.reckoning.specs.Scope.{SystemInScope, YearInScope}

infixl 80 ◌when◌
-- A row of the table: a refusal's number, and what makes it apply.
pub data Row : Type 1 where
  ◌when◌ : ℕ → Type 0 → Row

-- The number of the first row that applies, and 0 where none does.
abbrev pub FirstOf : List Row → ℕ → Type 0
FirstOf [] number = number ≡ 0
FirstOf ((refusal when applies) ∷ rows) number =
    ((number ≡ refusal) × applies) ⊎ ((applies → ⊥) × FirstOf rows number)

-- A request by system and year: SYSTEM, then YEAR,
abbrev pub year_rows : ℕ → ℕ → List Row
year_rows system year = SYSTEM when (SystemInScope system → ⊥) ∷ YEAR when (YearInScope year → ⊥) ∷ []

-- and then STEP where one of the year's steps is asked, numbered 0 to `most`:
abbrev pub step_rows : ℕ → ℕ → ℕ → ℕ → List Row
step_rows most system year i = year_rows system year ++ (STEP when (most < i) ∷ [])

-- a qi, 0 to 24 (paper 02, Q-8),
abbrev pub qi_rows : ℕ → ℕ → ℕ → List Row
qi_rows system year i = step_rows 24 system year i

-- or a pentad, 0 to 71 (Q-4).
abbrev pub pentad_rows : ℕ → ℕ → ℕ → List Row
pentad_rows system year p = step_rows 71 system year p
