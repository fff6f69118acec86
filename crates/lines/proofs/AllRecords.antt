-- An output with 16 bytes for each byte of a buffer takes all its records: a record has four bytes or more, and no line
-- has more than 64.
use Prim.Native.Nat.{ℕ, ◌+◌, ◌*◌, ◌-◌, ◌≤◌}
use mathlib.Core.Path.{◌≡◌, ap, sym, ◌∙◌}
use mathlib.Core.Bool.{true, false}
use mathlib.Core.List.{List, [], ◌++◌}
use native.Mathlib.Omega.{arith}
use lib.ListN.{length, take, drop, length-drop, length-append}
use Rattle.citation.specs.Record.{length_field}
use Rattle.framing.specs.Framing.{framed, Framing, framing}
use Rattle.framing.specs.Run.{text_of}
use Rattle.framing.proofs.Framed.{framed_is}
use Rattle.framing.proofs.Cutting.{by_records, framing_none, framing_more}
use Rattle.framing.proofs.Rest.{rest_shorter}
use Rattle.lines.specs.Line.{line_of}
use Rattle.lines.specs.Program.{lines_of, Portion, portion_then, portion_of}
use Rattle.lines.proofs.Lines.{line_short}
use Rattle.lines.proofs.Cutting.{portion_none, portion_more}

-- All the records of a buffer that is cut so.
abbrev all_by : List ℕ → Framing → Portion
all_by s f = record { read = length s - length f.rest; text = lines_of f.records }

module _ (s : List ℕ) (size : ℕ) where
  no_record_lem : framed s ≡ false → portion_of s size ≡ all_by s (framing s)
  unfolding text_of
  no_record_lem e =
      let none : 0 ≡ length s - length s = omega arith in
      portion_none s size e
      ∙ ap (λ n. record { read = n; text = [] }) none
      ∙ sym (ap (all_by s) (framing_none s e))

  one_more : framed s ≡ true → 64 ≤ size
      → (let line = line_of (take (length_field s) s) in
      portion_of (drop (length_field s) s) (size - length line)
      ≡ all_by (drop (length_field s) s) (framing (drop (length_field s) s)))
      → portion_of s size ≡ all_by s (framing s)
  unfolding text_of
  one_more e room others =
      let n = length_field s in
      let line = line_of (take n s) in
      let f = framing (drop n s) in
      let far : n + (length (drop n s) - length f.rest) ≡ length s - length f.rest =
      omega (arith, length-drop n s, (framed_is s e).all_there, rest_shorter (drop n s))
      in
      portion_more s size room e
      ∙ ap (portion_then n line) others
      ∙ ap (λ k. record { read = k; text = line ++ lines_of f.records }) far
      ∙ sym (ap (all_by s) (framing_more s e))

pub all_records : (s : List ℕ) (size : ℕ) → 16 * length s ≤ size
    → portion_of s size ≡ record { read = length s - length (framing s).rest; text = lines_of (framing s).records }
all_records =
    by_records {P = λ s. (size : ℕ) → 16 * length s ≤ size → portion_of s size ≡ all_by s (framing s)}
    (λ s e size room. no_record_lem s size e)
    (λ s e others size room.
    let n = length_field s in
    let line = line_of (take n s) in
    let f = framed_is s e in
    let long = length-drop n s in
    let short = line_short (take n s) in
    one_more s size e (omega arith) (others (size - length line) (omega arith)))

pub lines_short : (s : List ℕ) → length (lines_of (framing s).records) ≤ 16 * length s
unfolding text_of
lines_short =
    by_records {P = λ s. length (lines_of (framing s).records) ≤ 16 * length s}
    (λ s e. rw (framing_none s e) (omega arith))
    (λ s e others.
    let n = length_field s in
    let f = framed_is s e in
    rw (framing_more s e) (
    omega (
      arith,
      length-append (line_of (take n s)) (lines_of (framing (drop n s)).records),
      length-drop n s,
      line_short (take n s),
    )))
