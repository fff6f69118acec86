-- What is printed of the numbers of a range: years, register days, or days after a solstice.
use Rattle.std.specs.Prelude.{ℕ, ◌+◌, ◌≤◌, ◌<◌, min, ◌≡◌, ◌⊎◌, List, length}
use Rattle.text.specs.Wrote.{Wrote}
use Rattle.almanac_run.specs.declared.range.Filled.{Filled}
use Rattle.almanac_run.specs.declared.range.Page.{Page}
use Rattle.almanac_run.specs.declared.range.Page.TheVariants.{Year, Pentads, Pentad, Submerged, Extinguished}
use Rattle.almanac_run.specs.declared.range.Request.{Request}
use Rattle.almanac_run.specs.declared.range.Request.TheVariants.{BySystem, Compare, Sun}
use Rattle.arguments.specs.Number.{most}
use Rattle.comparison_pages.specs.ComparisonPage.{comparison_page}
use Rattle.pages.specs.Page.{page_of}
use Rattle.pages.specs.PentadPages.{pentads_page, pentad_line}
use Rattle.solar_inequality_lines.specs.AmountLine.{amount_line}
use Rattle.submerged_extinguished_pages.specs.DistancePages.{submerged_page, extinguished_page}
use Rattle.text.specs.Piece.{texts_up_to}

-- The number i after the first, as a number is told.
abbrev pub number_after : ℕ → ℕ → ℕ
number_after first i = min most (first + i)

-- What is printed of a year or a register day by a system.
abbrev pub system_page : Page → ℕ → ℕ → List ℕ
system_page Year system n = page_of system n
system_page Pentads system n = pentads_page system n
system_page Pentad system n = pentad_line system n
system_page Submerged system n = submerged_page system n
system_page Extinguished system n = extinguished_page system n

-- What is printed of a number.
abbrev pub requested_page : Request → ℕ → List ℕ
requested_page (BySystem page system) n = system_page page system n
requested_page (Compare first second) n = comparison_page first second n
requested_page (Sun season) n = amount_line season n

-- The pages of `count` numbers from the first on, in order.
abbrev pub pages_of : Request → ℕ → ℕ → List ℕ
pages_of request first count = texts_up_to (λ i. requested_page request (number_after first i)) count

-- A buffer filled from its start with the pages of up to `count` numbers, each where 8192 bytes, a page's room, were
-- left: all of them, or until there is no room for one more.
pub record FilledWith (request : Request) (first count : ℕ) (before after : List ℕ) (r : Filled) : Type 0 where
  pub text : Wrote before 0 (pages_of request first r.pages) after r.end
  pub next_is : r.next ≡ number_after first r.pages
  pub no_more : r.pages ≤ count
  pub each_had_room : (n : ℕ) → n < r.pages → length (pages_of request first n) + 8192 ≤ length before
  pub all_or_full : (r.pages ≡ count) ⊎ (length before < r.end + 8192)
