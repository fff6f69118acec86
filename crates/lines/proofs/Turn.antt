-- One turn of the loop over a buffer.
use Prim.Native.Nat.{ℕ, ◌+◌, ◌-◌, ◌≤◌, ◌<◌}
use mathlib.Core.Path.{◌≡◌, refl, ap, ap₂, sym, ◌∙◌}
use mathlib.Core.List.{List, [], ◌++◌, append_assoc, append-nil}
use native.Mathlib.Omega.{arith}
use lib.ListN.{length, take, drop, take-append-drop}
use lib.Seq.{drop-drop, length-take-le}
use borrow.Author.Tests.{le-leb, lt-leb}
use Rattle.std.specs.Prelude.{Option, Some, None}
use Rattle.std.proofs.lemmas.Option.{none-some}
use Rattle.calendar.proofs.Rising.{by_order}
use Rattle.text.specs.Wrote.{Wrote}
use Rattle.text.proofs.Writing.{wrote_front, wrote_back}
use Rattle.framing.specs.Framing.{framing}
use Rattle.framing.specs.Buffer.{at_front}
use Rattle.framing.proofs.Framed.{Next, next_is, next_none}
use Rattle.lines.specs.Line.{line_of}
use Rattle.lines.specs.Program.{no_portion, portion_then, portion_of, next_with_room, progress_of, LinesPut}
use Rattle.lines.proofs.Cutting.{portion_full, portion_none, portion_more}

-- Where a record is next, 64 bytes of output are.
room_is : (s : List ℕ) (at size n : ℕ) → Some n ≡ next_with_room s at size → (64 ≤ size) × Next s at n
room_is s at size n e =
    by_order size 64
    (λ full. absurd (none-some n (sym (e ∙ simp (lt-leb 64 size full)))))
    (λ room. (room, next_is s at n (e ∙ simp (le-leb 64 size room))))

-- The lines so far, and then what the rest of the output takes, are what the whole takes.
abbrev pub SoFar : List ℕ → ℕ → ℕ → List ℕ → ℕ → Type 0
SoFar s size read out written =
    portion_of s size ≡ portion_then read (take written out) (portion_of (drop read s) (size - written))

so_far_starts : (s : List ℕ) (size : ℕ) (out : List ℕ) → SoFar s size 0 out 0
so_far_starts s size out =
    let all : size - 0 ≡ size = omega arith in
    let p = portion_of s size in
    let none : p.read ≡ 0 + p.read = omega arith in
    ap (λ n. record { read = n; text = p.text }) none ∙ ap (λ k. portion_then 0 [] (portion_of s k)) (sym all)

module _ (s out out' : List ℕ) (read written written' size n : ℕ) (room : 64 ≤ size - written) (here : Next s read n)
    (w : Wrote out written (line_of (take (read + n - read) (drop read s))) out' written') where
  one_more : SoFar s size read out written → SoFar s size (read + n) out' written'
  one_more so_far =
      let f = drop read s in
      let line = line_of (take n f) in
      let same : read + n - read ≡ n = omega arith in
      let line_is : line_of (take (read + n - read) f) ≡ line = ap (λ k. line_of (take k f)) same in
      let text : take written' out' ≡ take written out ++ line =
      wrote_front out out' _ written written' w ∙ ap (λ t. take written out ++ t) line_is
      in
      let left : size - written - length line ≡ size - written' = omega (arith, w.ends, ap length line_is) in
      let p = portion_of (drop (read + n) s) (size - written') in
      let next : portion_of f (size - written) ≡ portion_then n line p =
      portion_more f (size - written) room here.is_framed
      ∙ ap
      (λ k. portion_then k (line_of (take k f)) (portion_of (drop k f) (size - written - length (line_of (take k f)))))
      (sym here.is_length)
      ∙ ap₂ (λ r k. portion_then n line (portion_of r k)) (drop-drop n read s) left
      in
      let far : read + (n + p.read) ≡ read + n + p.read = omega arith in
      let longer = sym (append_assoc (take written out) line p.text) ∙ ap (λ t. t ++ p.text) (sym text) in
      so_far
      ∙ ap (portion_then read (take written out)) next
      ∙ ap₂ (λ k t. record { read = k; text = t }) far longer

  rest_kept : (before : List ℕ) → drop written out ≡ drop written before → drop written' out' ≡ drop written' before
  rest_kept before e =
      let on : written + (written' - written) ≡ written' = omega (arith, w.ends) in
      wrote_back out out' _ written written' w
      ∙ ap (λ k. drop k out) (sym on)
      ∙ sym (drop-drop (written' - written) written out)
      ∙ ap (drop (written' - written)) e
      ∙ drop-drop (written' - written) written before
      ∙ ap (λ k. drop k before) on

-- Where no record is next, nothing more is taken.
nothing_next : (s : List ℕ) (at size : ℕ) → next_with_room s at size ≡ None → portion_of (drop at s) size ≡ no_portion
nothing_next s at size e =
    by_order size 64
    (portion_full (framing (drop at s)).records size)
    (λ room. portion_none (drop at s) size (next_none s at (sym (simp (le-leb 64 size room)) ∙ e)))

module _ (s out before : List ℕ) (read written : ℕ) (so_far : SoFar s (length before) read out written)
    (no_more : next_with_room s read (length before - written) ≡ None) where
  all_taken : portion_of s (length before) ≡ record { read = read; text = take written out }
  all_taken =
      let none : read + 0 ≡ read = omega arith in
      so_far
      ∙ ap (portion_then read (take written out)) (nothing_next s read (length before - written) no_more)
      ∙ ap₂ (λ n t. record { read = n; text = t }) none (append-nil (take written out))

  progress_is : written ≤ length out → record { read = read; written = written } ≡ progress_of (portion_of s (length before))
  progress_is h =
      sym (ap progress_of all_taken ∙ ap (λ n. record { read = read; written = n }) (length-take-le written out h))

  output_is : written ≤ length out → drop written out ≡ drop written before → out ≡ at_front (portion_of s (length before)).text before
  output_is h rest =
      sym
      (ap (λ p. at_front p.text before) all_taken
      ∙ ap (λ n. take written out ++ drop n before) (length-take-le written out h)
      ∙ ap (λ t. take written out ++ t) (sym rest)
      ∙ take-append-drop written out)

-- So far lines were put: so much was read and written.
pub record PuttingLines (input before out : List ℕ) (read written : ℕ) : Type 0 where
  pub read_within : read ≤ length input
  pub written_within : written ≤ length out
  pub same_length : length out ≡ length before
  pub so_far : SoFar input (length before) read out written
  pub rest_same : drop written out ≡ drop written before

pub putting_starts : (input out : List ℕ) → PuttingLines input out out 0 0
putting_starts input out =
    record {
      read_within = omega arith;
      written_within = omega arith;
      same_length = refl;
      so_far = so_far_starts input (length out) out;
      rest_same = refl;
    }

-- What is next is told by the output as it is.
module _ {input before out : List ℕ} {read written n : ℕ} {found : Option ℕ} (κ : PuttingLines input before out read written)
    (some : found ≡ Some n) (next : found ≡ next_with_room input read (length out - written)) where
  here : (64 ≤ length before - written) × Next input read n
  here = room_is _ _ _ _ (sym some ∙ next ∙ ap (λ k. next_with_room input read (k - written)) κ.same_length)

  -- The next record lies within the buffer, and its line has room.
  pub record_within : read + n ≤ length input
  record_within = here.1.within

  pub line_has_room : written + 64 ≤ length out
  line_has_room = omega (arith, here.0, κ.written_within, κ.same_length)

  pub less_left : length input - (read + n) < length input - read
  less_left = omega (arith, here.1.at_least, record_within)

  pub putting_more : {out' : List ℕ} {written' : ℕ}
      → Wrote out written (line_of (take (read + n - read) (drop read input))) out' written'
      → PuttingLines input before out' (read + n) written'
  putting_more {out'} {written'} w =
      record {
        read_within = record_within;
        written_within = omega (arith, w.fits, w.same_length);
        same_length = w.same_length ∙ κ.same_length;
        so_far = one_more _ _ _ _ _ _ _ _ here.0 here.1 w κ.so_far;
        rest_same = rest_kept _ _ _ _ _ _ _ _ here.0 here.1 w _ κ.rest_same;
      }

-- Where no record is next, all lines are put.
pub lines_put : {input before out : List ℕ} {read written : ℕ} {found : Option ℕ} → PuttingLines input before out read written
    → found ≡ None
    → found ≡ next_with_room input read (length out - written)
    → LinesPut input before out (record { read = read; written = written })
lines_put {input} {before} {out} {read} {written} κ none next =
    let no_more = sym (sym none ∙ next ∙ ap (λ k. next_with_room input read (k - written)) κ.same_length) in
    record {
      progress = progress_is input out before read written κ.so_far no_more κ.written_within;
      output = output_is input out before read written κ.so_far no_more κ.written_within κ.rest_same;
      read_within = κ.read_within;
      written_within = κ.written_within;
      same_length = κ.same_length;
    }
