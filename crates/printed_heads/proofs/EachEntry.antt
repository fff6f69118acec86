-- Each number on the page is the register day of its year's head.
use Prim.Native.Nat.{ℕ, ◌+◌, ◌<◌}
use mathlib.Core.Path.{◌≡◌}
use mathlib.Core.Bool.{Bool, true}
use mathlib.Core.List.{List}
use lib.Dec.{eqb}
use lib.ListN.{length, get_or}
use borrow.Author.Tests.{eqb-true}
use Rattle.calendar.specs.Systems.{guantian, years_elapsed}
use Rattle.calendar.specs.ClosedForms.{head_of_year}
use Rattle.calendar.proofs.Spans.{span}
use Rattle.calendar.proofs.EachSystem.{consistent}
use Rattle.printed_heads.specs.PrintedHeads.{first_year, IsHead}
use Rattle.printed_heads.proofs.Table.{all, each}

-- The test: r is the register day of the head of a Guantian year, by the closed form.
abbrev is_head : ℕ → ℕ → Bool
is_head year r = eqb (r + guantian.anchor) (head_of_year guantian (years_elapsed guantian year) + guantian.epoch)

-- A page that passes the test as a whole has at i the head of year `first_year` + i, by the worded rule.
pub each_entry : (heads : List ℕ) (i : ℕ) → all is_head first_year heads ≡ true → i < length heads
    → IsHead guantian (years_elapsed guantian (first_year + i)) (get_or heads i 0)
each_entry heads i test here =
    let n = years_elapsed guantian (first_year + i) in
    record {
      span = span guantian (consistent 1) n;
      is_register_day = eqb-true _ _ (each is_head first_year heads test i here);
    }
