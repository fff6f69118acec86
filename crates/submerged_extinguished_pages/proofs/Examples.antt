-- Lines, computed: the first of each page, of a distance, of none, of a distance of no days, and of refusals.
use Prim.Native.Nat.{ℕ}
use mathlib.Core.Path.{◌≡◌, refl}
use mathlib.Core.List.{List, [], ◌∷◌, ◌++◌}
use Rattle.reckoning.specs.ComputedRefusals.{year_refusal, step_refusal}
use Rattle.reckoning.specs.Filled.{filled}
use Rattle.reckoning.specs.Requests.{step_of}
use Rattle.submerged_extinguished.specs.Answers.{submerged_by, submerged_in, extinguished_by, extinguished_from, extinguished_days_of}
use Rattle.text.specs.Decimal.{decimal}
use Rattle.text.specs.Piece.{word, field, fields, year, title, numbered, last_field, texts_up_to}
use Rattle.submerged_extinguished_pages.specs.DistancePages.{distance_line, page_with, submerged_word, qi_line, qi_lines, submerged_page}
use Rattle.submerged_extinguished_pages.specs.DistancePages.{extinguished_word, moon_line_at, extinguished_page}

-- "submerged G 1094"
abbrev submerged_title : List ℕ
submerged_title = 115 ∷ 117 ∷ 98 ∷ 109 ∷ 101 ∷ 114 ∷ 103 ∷ 101 ∷ 100 ∷ 32 ∷ 71 ∷ 32 ∷ 49 ∷ 48 ∷ 57 ∷ 52 ∷ 10 ∷ []

-- "qi 1 2120640 7"
abbrev qi_line_lem : List ℕ
qi_line_lem = 113 ∷ 105 ∷ 32 ∷ 49 ∷ 32 ∷ 50 ∷ 49 ∷ 50 ∷ 48 ∷ 54 ∷ 52 ∷ 48 ∷ 32 ∷ 55 ∷ 10 ∷ []

-- "qi 2 2120656 -"
abbrev no_submerged : List ℕ
no_submerged = 113 ∷ 105 ∷ 32 ∷ 50 ∷ 32 ∷ 50 ∷ 49 ∷ 50 ∷ 48 ∷ 54 ∷ 53 ∷ 54 ∷ 32 ∷ 45 ∷ 10 ∷ []

-- "extinguished G 1094"
abbrev extinguished_title : List ℕ
extinguished_title = 101 ∷ 120 ∷ 116 ∷ 105 ∷ 110 ∷ 103 ∷ 117 ∷ 105 ∷ 115 ∷ 104 ∷ 101 ∷ 100 ∷ 32 ∷ 71 ∷ 32 ∷ 49 ∷ 48 ∷ 57 ∷ 52 ∷ 10 ∷ []

-- "moon 2 2120631 7"
abbrev moon_line_lem : List ℕ
moon_line_lem = 109 ∷ 111 ∷ 111 ∷ 110 ∷ 32 ∷ 50 ∷ 32 ∷ 50 ∷ 49 ∷ 50 ∷ 48 ∷ 54 ∷ 51 ∷ 49 ∷ 32 ∷ 55 ∷ 10 ∷ []

-- "moon 9 2123407 0"
abbrev nought : List ℕ
nought = 109 ∷ 111 ∷ 111 ∷ 110 ∷ 32 ∷ 57 ∷ 32 ∷ 50 ∷ 49 ∷ 50 ∷ 51 ∷ 52 ∷ 48 ∷ 55 ∷ 32 ∷ 48 ∷ 10 ∷ []

pub submerged_lines : title submerged_word 1 1094 ++ (qi_line 1 1094 1 ++ qi_line 1 1094 2) ≡ submerged_title ++ (qi_line_lem ++ no_submerged)
unfolding submerged_in submerged_by step_of step_refusal decimal word field year title numbered last_field distance_line
submerged_lines = refl

pub extinguished_lines : title extinguished_word 1 1094 ++ (moon_line_at (extinguished_days_of 1 1094) 1 ++ moon_line_at (extinguished_days_of 1 1101) 8) ≡ extinguished_title ++ (moon_line_lem ++ nought)
unfolding extinguished_days_of extinguished_from extinguished_by year_refusal filled decimal word field year title numbered last_field distance_line
extinguished_lines = refl

-- "refused 4" and "refused 5"
abbrev refused_lines : List ℕ
refused_lines =
    114 ∷ 101 ∷ 102 ∷ 117 ∷ 115 ∷ 101 ∷ 100 ∷ 32 ∷ 52 ∷ 10 ∷ 114 ∷ 101 ∷ 102 ∷ 117 ∷ 115 ∷ 101 ∷ 100 ∷ 32 ∷ 53 ∷ 10 ∷ []

pub refusals_told : submerged_page 3 1094 ++ extinguished_page 1 3001 ≡ refused_lines
unfolding page_with submerged_in extinguished_days_of year_refusal step_of step_refusal decimal word field fields
refusals_told = refl

-- The last of a page's lines is that of qi 24.
pub up_to_24 : (system year : ℕ) → qi_lines system year ≡ texts_up_to (qi_line system year) 24 ++ qi_line system year 24
unfolding qi_lines texts_up_to
up_to_24 system year = refl
