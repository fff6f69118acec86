-- Each system has a letter, and no other number has.
use Prim.Native.Nat.{ℕ, zero, suc, ◌≤◌}
use mathlib.Core.Path.{◌≡◌, refl, sym}
use native.Mathlib.Omega.{arith}
use lib.ListN.{length, get_or-eq_default}
use Rattle.calendar.specs.Systems.{last_system}
use Rattle.calendar.proofs.Rising.{by_order}
use Rattle.text.specs.Piece.{letters, letter_of}

pub one_each : length letters ≡ last_system
one_each = refl

pub no_letter : (system : ℕ) → (1 ≤ system → system ≤ last_system → ⊥) → 63 ≡ letter_of system
no_letter zero none = refl
no_letter (suc i) none =
    by_order i last_system
    (λ l. absurd (none (omega arith) (omega arith)))
    (λ past. sym (get_or-eq_default letters 63 {n = i} (omega arith)))
