-- A buffer filled with pages, one after another.
use Prim.Native.Nat.{ℕ, ◌+◌, ◌-◌, ◌≤◌, ◌<◌, min}
use mathlib.Core.Path.{◌≡◌, ap}
use mathlib.Core.Logic.{inl, inr, ⊎_elim}
use mathlib.Core.List.{List}
use native.Mathlib.Omega.{arith}
use lib.ListN.{length}
use Rattle.calendar.proofs.Rising.{by_order}
use Rattle.text.specs.Wrote.{Wrote}
use Rattle.text.proofs.Writing.{wrote_as, wrote_no_texts, wrote_one_more}
use Rattle.arguments.specs.Number.{most}
use Rattle.text.specs.Piece.{texts_up_to}
use Rattle.almanac_run.specs.declared.range.Filled.{Filled}
use Rattle.almanac_run.specs.declared.range.Request.{Request}
use Rattle.almanac_run.specs.Pages.{requested_page, number_after, pages_of, FilledWith}

-- So many pages are there; the number after them is next.
pub record Filling (request : Request) (first : ℕ) (before out : List ℕ) (pages next end : ℕ) : Type 0 where
  pub text : Wrote before 0 (pages_of request first pages) out end
  pub next_is : next ≡ number_after first pages
  pub each_had_room : (n : ℕ) → n < pages → length (pages_of request first n) + 8192 ≤ length before

pub filling_starts : (request : Request) (first : ℕ) (before : List ℕ) → first ≤ most → Filling request first before before 0 first 0
filling_starts request first before h =
    record {
      text = wrote_no_texts (λ i. requested_page request (number_after first i)) (omega arith);
      next_is = omega arith;
      each_had_room = λ n l. absurd (omega arith);
    }

module _ {request : Request} {first : ℕ} {before out : List ℕ} {pages next end : ℕ} (f : Filling request first before out pages next end) where
  pub filling_more : {out' : List ℕ} {next' end' : ℕ}
      → Wrote out end (requested_page request next) out' end'
      → 8192 ≤ length out - end
      → next' ≡ min most (next + 1)
      → Filling request first before out' (pages + 1) next' end'
  filling_more w room e =
      record {
        text = wrote_one_more (λ i. requested_page request (number_after first i)) pages f.text (wrote_as (ap (requested_page request) f.next_is) w);
        next_is = omega (arith, f.next_is);
        each_had_room = λ n l.
            by_order n pages
            (λ before_it. f.each_had_room n before_it)
            (λ at_it.
            let last : n ≡ pages = omega arith in
            omega (arith, f.text.ends, f.text.fits, f.text.same_length, ap (λ k. length (pages_of request first k)) last));
      }

  -- All are there, or the buffer is full.
  pub filled_all : (count : ℕ) → pages ≤ count → count ≤ pages
      → FilledWith request first count before out (record { pages = pages; next = next; end = end })
  filled_all count l h =
      record {
        text = f.text;
        next_is = f.next_is;
        no_more = l;
        each_had_room = f.each_had_room;
        all_or_full = inl (omega arith);
      }

  pub filled_full : (count : ℕ) → pages ≤ count → length out - end < 8192
      → FilledWith request first count before out (record { pages = pages; next = next; end = end })
  filled_full count l full =
      record {
        text = f.text;
        next_is = f.next_is;
        no_more = l;
        each_had_room = f.each_had_room;
        all_or_full = inr (omega (arith, f.text.same_length));
      }

-- A buffer with room for a page takes at least one.
pub some_page : (request : Request) (first count : ℕ) (before after : List ℕ) (r : Filled)
    → FilledWith request first count before after r → 0 < count → 8192 ≤ length before → 0 < r.pages
unfolding texts_up_to
some_page request first count before after r f some room =
    by_order 0 r.pages
    (λ h. h)
    (λ h.
    let none : r.pages ≡ 0 = omega arith in
    let nothing : length (pages_of request first r.pages) ≡ 0 = ap (λ n. length (pages_of request first n)) none in
    ⊎_elim (λ e. omega arith) (λ full. omega (arith, f.text.ends)) f.all_or_full)

-- A turn on a buffer with room for a page leaves fewer numbers, and goes on with the one after those written.
pub record Going (first count : ℕ) (next left : ℕ) : Type 0 where
  pub no_more : left ≤ count
  pub next_is : next ≡ number_after first (count - left)

module _ {request : Request} {next left : ℕ} {before after : List ℕ} {r : Filled} (f : FilledWith request next left before after r)
    (some : 0 < left) where
  pub fewer : 8192 ≤ length before → left - r.pages < left
  fewer room = omega (arith, some_page _ _ _ _ _ _ f some room, f.no_more)

  pub goes_on : {first count : ℕ} → Going first count next left → Going first count r.next (left - r.pages)
  goes_on g =
      record {
        no_more = omega (arith, g.no_more);
        next_is = omega (arith, f.next_is, f.no_more, g.no_more, g.next_is);
      }
