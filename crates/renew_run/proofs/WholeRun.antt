-- However the input comes in pieces, the run writes the whole of it, renewed.
use Rattle.std.proofs.Common.{◌≡◌, ℕ, List, [], length, ap, ◌∙◌}
use Rattle.framing.specs.Run.{input_of, run_by}
use Rattle.framing.proofs.WholeRun.{run_is_whole}
use Rattle.renewal.specs.Renewal.{renewer, renewed_of}
use Rattle.renewal.proofs.WholeInput.{same_length, ends_there}

pub run_is_renewed : (reads : List (List ℕ)) → run_by renewer [] reads ≡ renewed_of (input_of reads)
run_is_renewed = run_is_whole renewer ends_there

-- So as many bytes are written as are read.
pub run_length : (reads : List (List ℕ)) → length (run_by renewer [] reads) ≡ length (input_of reads)
run_length reads = ap length (run_is_renewed reads) ∙ same_length (input_of reads)
