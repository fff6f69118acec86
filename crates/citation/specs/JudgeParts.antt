-- What the parts of the judgement are handed, and what they tell.
use Rattle.std.specs.Prelude.{ℕ, ◌≡◌, ◌⊎◌, Bool, not, ◌&&◌, ◌||◌, List, eqb, length}
use Rattle.calendar.specs.Inside.{Inside}
use Rattle.reckoning.specs.declared.data.Month.{Month}
use Rattle.reckoning.specs.ComputedRefusals.{outside}
use Rattle.reckoning.specs.Requests.{month_of}
use Rattle.reckoning.specs.Told.{month_answered}
use Rattle.citation.specs.declared.judge.Kind.{Kind}
use Rattle.citation.specs.declared.judge.Kind.TheVariants.{Date, Ordinal, RegisterDay, Name}
use Rattle.citation.specs.Record.{kind_of}
use Rattle.citation.specs.Store.{length_right}

-- A kind that there is, and that is not retired.
abbrev pub is_kind : ℕ → Bool
is_kind kind = not (outside 1 5 kind || eqb kind 2)

-- A whole record: of such a kind, and as long as that.
abbrev pub is_whole : List ℕ → Bool
is_whole s = is_kind (kind_of s) && length_right s

-- A whole record of a kind: ten bytes of kind 1 or 5, or nine of kind 3 or 4.
pub record Whole (s : List ℕ) (kind : ℕ) : Type 0 where
  pub of_kind : kind ≡ kind_of s
  pub nine_or_ten : Inside 9 10 (length s)
  pub of_ten : length s ≡ 10 → (kind ≡ 1) ⊎ (kind ≡ 5)
  pub of_nine : length s ≡ 9 → (kind ≡ 3) ⊎ (kind ≡ 4)

-- The month that a citation names, found.
abbrev pub Found : Month → ℕ → ℕ → ℕ → ℕ → Type 0
Found m system year month leap = month_answered m ≡ month_of system year month leap

-- The number of a kind.
abbrev pub kind_number : Kind → ℕ
kind_number Date = 1
kind_number Ordinal = 3
kind_number RegisterDay = 4
kind_number Name = 5
