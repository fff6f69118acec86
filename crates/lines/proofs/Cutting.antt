-- What is written, record by record.
use Prim.Native.Nat.{ℕ, ◌-◌, ◌≤◌, ◌<◌}
use mathlib.Core.Path.{◌≡◌, refl, ap, ◌∙◌}
use mathlib.Core.Bool.{true, false, cond}
use mathlib.Core.List.{List, [], ◌∷◌, ◌++◌}
use native.Mathlib.Omega.{arith}
use lib.ListN.{length, take, drop}
use lib.Seq.{length-take-le}
use borrow.Author.Tests.{le-leb, lt-leb, ne_eqb}
use Rattle.reckoning.specs.RefusalNumbers.{SHORT}
use Rattle.citation.specs.Record.{length_field}
use Rattle.text.specs.Piece.{refused_line}
use Rattle.framing.specs.Framing.{framed, framing_within}
use Rattle.framing.specs.Run.{text_of}
use Rattle.framing.proofs.Framed.{framed_is}
use Rattle.framing.proofs.Cutting.{framing_none, framing_more}
use Rattle.framing.proofs.WholeRun.{whole_none, whole_more}
use Rattle.lines.specs.Line.{line_of}
use Rattle.lines.specs.Program.{line_writer, output_of, no_portion, portion_then, portion, portion_of}

-- The program's output.
pub output_line : (s : List ℕ) → framed s ≡ true → output_of s ≡ line_of (take (length_field s) s) ++ output_of (drop (length_field s) s)
output_line = whole_more line_writer

pub output_stop : (s : List ℕ) → 0 < length s → framed s ≡ false → output_of s ≡ refused_line SHORT
output_stop s some e = whole_none line_writer s e ∙ simp (ne_eqb (length s) 0 (λ z. omega arith))

pub output_nothing : output_of [] ≡ []
unfolding text_of framing_within
output_nothing = refl

-- What an output takes.
pub portion_full : (records : List (List ℕ)) (size : ℕ) → size < 64 → portion records size ≡ no_portion
unfolding portion
portion_full [] size h = refl
portion_full (r ∷ records) size h = simp (lt-leb 64 size h)

pub portion_none : (s : List ℕ) (size : ℕ) → framed s ≡ false → portion_of s size ≡ no_portion
unfolding portion
portion_none s size e = ap (λ f. portion f.records size) (framing_none s e)

pub portion_more : (s : List ℕ) (size : ℕ) → 64 ≤ size → framed s ≡ true
    → portion_of s size
    ≡ portion_then (length_field s) (line_of (take (length_field s) s))
    (portion_of (drop (length_field s) s) (size - length (line_of (take (length_field s) s))))
unfolding portion
portion_more s size h e =
    let line = line_of (take (length_field s) s) in
    let others = portion_of (drop (length_field s) s) (size - length line) in
    ap (λ f. portion f.records size) (framing_more s e)
    ∙ ap (λ b. cond b (portion_then (length (take (length_field s) s)) line others) no_portion) (le-leb 64 size h)
    ∙ ap (λ n. portion_then n line others) (length-take-le (length_field s) s (framed_is s e).all_there)
