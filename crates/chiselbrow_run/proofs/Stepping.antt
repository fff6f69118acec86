-- A step, from its turn.
use Rattle.std.proofs.Common.{◌≡◌, ℕ, ◌+◌, ◌<◌, ◌≤◌, Bool, false, not, eqb, List, ◌++◌, length, take, drop, Result, Ok, Err, ap, ◌∙◌, ap₂, arith}
use lib.Seq.{take-append_seam}
use borrow.Author.Tests.{not-false}
use Rattle.framing.specs.Framing.{rest_of}
use Rattle.framing.proofs.Stepping as steps
use Rattle.process.specs.declared.streams.Failure.{Failure}
use Rattle.chiselbrow_run.specs.declared.turn.Turn.{Turn}
use Rattle.chiselbrow_run.specs.declared.Step.{Step}
use Rattle.chiselbrow_run.specs.Turn.{turn_of, Turned}
use Rattle.chiselbrow_run.specs.Stepped.{Stepped, ReadAndAnswered}

-- One whose lines were written leaves what its turn does.
pub written_step : {ended : Bool} {s kept before out : List ℕ} {t : Turn} → Turned ended s kept before out t
    → Stepped ended s kept (Ok (record { more = t.more; left = t.left; read = t.read }))
unfolding turn_of
written_step {s = s} turned =
    let rest = rest_of s in
    let left_is = ap (λ x. x.left) turned.is in
    record {
      left_within = turned.left_within;
      goes_on = λ e. ap (λ x. x.more) turned.is;
      left_is = λ e. left_is;
      read_is = λ e. ap (λ x. x.read) turned.is;
      rest_in_front = λ e. ap₂ take left_is turned.rest_in_front ∙ take-append_seam rest (drop (length rest) s);
      left_short = turned.left_short;
    }

-- A step on the front of a buffer leaves the rest of it.
in_front : (ended : Bool) (s after rest : List ℕ) (r : Result Step Failure) → Stepped ended s after r
    → Stepped ended s (after ++ rest) r
in_front ended s after rest (Ok r) stepped = steps.in_front rest stepped
in_front ended s after rest (Err _) stepped = steps.in_front rest stepped

-- A step that reads.
pub read_step : (after : List ℕ) (r : Result Step Failure) (kept count : ℕ) (input part tail rest : List ℕ)
    → kept < 64
    → 64 ≤ length input
    → count ≤ length part
    → Stepped (eqb count 0) (take (kept + count) (take kept input ++ (part ++ tail))) after r
    → ReadAndAnswered (take kept input) (after ++ rest) r
read_step after r kept count input part tail rest short room l stepped =
    steps.read_step {Holds = λ ended s. Stepped ended s (after ++ rest) r} kept count input part tail (omega arith) l
    (in_front _ _ after rest r stepped)

-- Where the run goes on, the next read has room.
pub room_left : {kept after : List ℕ} {r : Step} → ReadAndAnswered kept after (Ok r) → not r.more ≡ false → r.left < 64
room_left read goes_on = read.holds.left_short (not-false _ goes_on)
