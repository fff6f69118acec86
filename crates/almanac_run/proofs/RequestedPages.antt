-- A page by what was asked for, where there is room for the longest.
use Prim.Native.Nat.{ℕ, ◌+◌, ◌≤◌}
use mathlib.Core.Path.{◌≡◌, refl, sym, ap}
use mathlib.Core.Bool.{true}
use mathlib.Core.List.{List}
use native.Mathlib.Omega.{arith}
use lib.Dec.{leb}
use lib.ListN.{length}
use borrow.Author.Tests.{leb-true}
use Rattle.text.specs.Put.{Put}
use Rattle.text.specs.Wrote.{Wrote}
use Rattle.text.proofs.Writing.{wrote_as}
use Rattle.text.proofs.Putting.{put_wrote}
use Rattle.almanac_run.specs.declared.range.Page.{Page}
use Rattle.almanac_run.specs.declared.range.Request.{Request}
use Rattle.almanac_run.specs.declared.range.Request.TheVariants.{BySystem, Compare}
use Rattle.comparison_pages.specs.ComparisonPage.{comparison_page}
use Rattle.almanac_run.specs.Pages.{system_page, requested_page}

-- By a system.
pub wrote_page : {page which : Page} {out out' : List ℕ} {at end room : ℕ} (system n : ℕ) → page ≡ which
    → Put out at room (system_page which system n) out' end
    → leb room 8192 ≡ true
    → at + 8192 ≤ length out
    → Wrote out at (system_page page system n) out' end
wrote_page {room = room} system n is p short there =
    wrote_as (ap (λ w. system_page w system n) (sym is)) (put_wrote p (omega (arith, leb-true room 8192 short)))

-- Of whatever was asked for.
pub wrote_by_system : {request : Request} {page : Page} {system : ℕ} {out out' : List ℕ} {at end : ℕ} (n : ℕ)
    → request ≡ BySystem page system
    → Wrote out at (system_page page system n) out' end
    → Wrote out at (requested_page request n) out' end
wrote_by_system n is w = wrote_as (ap (λ r. requested_page r n) (sym is)) w

pub wrote_requested : {request which : Request} {out out' : List ℕ} {at end room : ℕ} (n : ℕ) → request ≡ which
    → Put out at room (requested_page which n) out' end
    → leb room 8192 ≡ true
    → at + 8192 ≤ length out
    → Wrote out at (requested_page request n) out' end
wrote_requested {room = room} n is p short there =
    wrote_as (ap (λ r. requested_page r n) (sym is)) (put_wrote p (omega (arith, leb-true room 8192 short)))

-- Of a comparison, whose page is asked for with less room.
pub wrote_comparison : {request : Request} {first second : ℕ} {out out' : List ℕ} {at end : ℕ} (n : ℕ)
    → request ≡ Compare first second
    → Put out at 1024 (comparison_page first second n) out' end
    → at + 8192 ≤ length out
    → Wrote out at (requested_page request n) out' end
wrote_comparison n is p there = wrote_requested n is p refl there
