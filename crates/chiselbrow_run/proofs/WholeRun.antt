-- However the input comes in pieces, the run writes what the program is to write on the whole of it.
use Rattle.std.proofs.Common.{◌≡◌, ℕ, ◌<◌, List, [], ◌++◌, length, sym, ◌∙◌, append-nil, arith, length-append, ne_eqb}
use Rattle.reckoning.specs.RefusalNumbers.{SHORT}
use Rattle.text.specs.Piece.{refused_line}
use Rattle.framing.specs.Run.{input_of, EndsThere}
use Rattle.framing.proofs.Framed.{two_bytes}
use Rattle.framing.proofs.WholeRun.{run_is_whole}
use Rattle.lines.specs.Program.{ending_of, output_of, line_writer}
use Rattle.chiselbrow_run.specs.Run.{run_of}

-- Where a byte is left, the ending is one line;
one_line : (rest : List ℕ) → 0 < length rest → ending_of rest ≡ refused_line SHORT
one_line rest some = simp (ne_eqb (length rest) 0 (λ z. omega arith))

-- so it is the same one whatever follows a length field that no record has.
ends_there : EndsThere line_writer
ends_there r t bad =
    let two = two_bytes r t bad in
    one_line (r ++ t) (omega (arith, length-append r t)) ∙ sym (append-nil (ending_of r) ∙ one_line r (omega arith))

pub run_is_output : (reads : List (List ℕ)) → run_of [] reads ≡ output_of (input_of reads)
run_is_output = run_is_whole line_writer ends_there
