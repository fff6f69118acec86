-- Lists filled from their first place on.
use Rattle.std.specs.Prelude.{ℕ, zero, suc, List, set}

-- The list d with its first n elements replaced by f 0, f 1, ..
unfoldable pub filled : {A : Type 0} → (ℕ → A) → List A → ℕ → List A
filled f d zero = d
filled f d (suc n) = set (filled f d n) n (f n)
