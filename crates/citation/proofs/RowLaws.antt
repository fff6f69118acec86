-- Rows of refusals: the first that applies is one number only, and rows may follow rows.
use Prim.Native.Nat.{ℕ, ◌<◌}
use mathlib.Core.Path.{◌≡◌, sym, ◌∙◌}
use mathlib.Core.Logic.{◌⊎◌, ◌↔◌, inl, inr, ⊎_elim}
use mathlib.Core.List.{List, [], ◌∷◌, ◌++◌}
use native.Mathlib.Omega.{arith}
use Rattle.reckoning.specs.WordedRefusals.{Row, ◌when◌, FirstOf}

pub first_unique : (rows : List Row) (m n : ℕ) → FirstOf rows m → FirstOf rows n → m ≡ n
first_unique [] m n p q = p ∙ sym q
first_unique ((refusal when applies) ∷ rows) m n p q =
    ⊎_elim
    (λ a. ⊎_elim (λ b. a.0 ∙ sym b.0) (λ b. absurd (b.0 a.1)) q)
    (λ a. ⊎_elim (λ b. absurd (a.0 b.1)) (λ b. first_unique rows m n a.1 b.1) q)
    p

-- A refusal stands, whatever rows follow.
pub first_before : (rows more : List Row) (n : ℕ) → 0 < n → FirstOf rows n → FirstOf (rows ++ more) n
first_before [] more n some p = absurd (omega arith)
first_before ((refusal when applies) ∷ rows) more n some p =
    ⊎_elim (λ a. inl a) (λ a. inr (a.0, first_before rows more n some a.1)) p

-- Rows all numbered from 1 on.
abbrev pub Numbered : List Row → Type 0
Numbered [] = Unit {0}
Numbered ((refusal when applies) ∷ rows) = (0 < refusal) × Numbered rows

-- Where none of them applies, the rows that follow decide.
pub first_after : (rows more : List Row) (n : ℕ) → Numbered rows → FirstOf rows 0 → FirstOf more n → FirstOf (rows ++ more) n
first_after [] more n k p q = q
first_after ((refusal when applies) ∷ rows) more n k p q =
    ⊎_elim
    (λ a. absurd (omega (arith, a.0, k.0)))
    (λ a. inr (a.0, first_after rows more n k.1 a.1 q))
    p

-- Where none applies, each does not.
abbrev pub NoneOf : List Row → Type 0
NoneOf [] = Unit {0}
NoneOf ((refusal when applies) ∷ rows) = (applies → ⊥) × NoneOf rows

pub none_applies : (rows : List Row) → Numbered rows → FirstOf rows 0 → NoneOf rows
none_applies [] k p = tt
none_applies ((refusal when applies) ∷ rows) k p =
    ⊎_elim (λ a. absurd (omega (arith, a.0, k.0))) (λ a. (a.0, none_applies rows k.1 a.1)) p

-- A row that does not apply may be left out.
pub first_past : {given applies others : Type 0} → (applies → ⊥) → (given × applies) ⊎ ((applies → ⊥) × others) → others
first_past never p = ⊎_elim (λ a. absurd (never a.1)) (λ a. a.1) p

-- Rows with the same numbers, that apply alike, give the same.
abbrev pub Alike : List Row → List Row → Type 0
Alike [] [] = Unit {0}
Alike [] (row ∷ rows) = ⊥
Alike (row ∷ rows) [] = ⊥
Alike ((m when a) ∷ rows) ((n when b) ∷ others) = (m ≡ n) × (a ↔ b) × Alike rows others

pub first_alike : (rows others : List Row) (n : ℕ) → Alike rows others → FirstOf rows n → FirstOf others n
first_alike [] [] n alike p = p
first_alike [] (row ∷ others) n alike p = absurd alike
first_alike (row ∷ rows) [] n alike p = absurd alike
first_alike ((m when a) ∷ rows) ((k when b) ∷ others) n alike p =
    ⊎_elim
    (λ x. inl (x.0 ∙ alike.0, alike.1.0 x.1))
    (λ x. inr (λ y. x.0 (alike.1.1 y), first_alike rows others n alike.2 x.1))
    p

pub alike_back : (rows others : List Row) → Alike rows others → Alike others rows
alike_back [] [] alike = tt
alike_back [] (row ∷ others) alike = absurd alike
alike_back (row ∷ rows) [] alike = absurd alike
alike_back ((m when a) ∷ rows) ((k when b) ∷ others) alike =
    (sym alike.0, (alike.1.1, alike.1.0), alike_back rows others alike.2)
