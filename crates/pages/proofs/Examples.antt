-- The lines of two months of Guantian 1094, computed: leap 4, which holds no middle qi, and month 5, which holds one.
use Prim.Native.Nat.{ℕ}
use mathlib.Core.Path.{◌≡◌, refl}
use mathlib.Core.List.{List, [], ◌∷◌, ◌++◌}
use Rattle.reckoning.specs.ComputedRefusals.{year_refusal}
use Rattle.reckoning.specs.Filled.{filled}
use Rattle.reckoning.specs.Requests.{year_of, months_from}
use Rattle.text.specs.Decimal.{decimal}
use Rattle.text.specs.Piece.{word, field, month, numbered, last_field}
use Rattle.pages.specs.Page.{told_month, month_start, month_line, month_at}

-- "month " and more
abbrev month_line_lem : List ℕ → List ℕ
month_line_lem rest = 109 ∷ 111 ∷ 110 ∷ 116 ∷ 104 ∷ 32 ∷ rest

-- "month 7 4* 2120778 8 30 9353 -"
abbrev leap_line : List ℕ
leap_line =
    month_line_lem
    (55 ∷ 32 ∷ 52 ∷ 42 ∷ 32 ∷ 50 ∷ 49 ∷ 50 ∷ 48 ∷ 55 ∷ 55 ∷ 56 ∷ 32 ∷ 56 ∷ 32 ∷ 51 ∷ 48 ∷ 32 ∷ 57 ∷ 51 ∷ 53 ∷ 51 ∷ 32 ∷ 45 ∷ 10 ∷ [])

-- "month 8 5 2120808 38 29 3706 6"
abbrev line_after : List ℕ
line_after =
    month_line_lem
    (56 ∷ 32 ∷ 53 ∷ 32 ∷ 50 ∷ 49 ∷ 50 ∷ 48 ∷ 56 ∷ 48 ∷ 56 ∷ 32 ∷ 51 ∷ 56 ∷ 32 ∷ 50 ∷ 57 ∷ 32 ∷ 51 ∷ 55 ∷ 48 ∷ 54 ∷ 32 ∷ 54 ∷ 10 ∷ [])

pub months_told : month_at (year_of 1 1094) 6 ++ month_at (year_of 1 1094) 7 ≡ leap_line ++ line_after
unfolding year_of year_refusal months_from filled decimal word field month numbered last_field told_month month_start month_line
months_told = refl
