-- A step, from its turn.
use Rattle.std.proofs.Common.{◌≡◌, ℕ, ◌+◌, ◌-◌, ◌<◌, ◌≤◌, Bool, false, not, eqb, List, ◌++◌, length, take, drop, Result, Ok, Err, sym, refl, ap, ◌∙◌, ap₂, arith, length-append, length-drop}
use lib.Seq.{take-append_seam}
use borrow.Author.Tests.{not-false}
use Rattle.framing.specs.Framing.{rest_of}
use Rattle.framing.specs.Buffer.{at_front}
use Rattle.framing.proofs.Rest.{rest_shorter}
use Rattle.framing.proofs.Stepping as steps
use Rattle.process.specs.declared.streams.Failure.{Failure}
use Rattle.renew_run.specs.declared.turn.Turn.{Turn}
use Rattle.renew_run.specs.declared.Step.{Step}
use Rattle.renew_run.specs.Turn.{turn_of, Turned}
use Rattle.renew_run.specs.Stepped.{Stepped, ReadAndRenewed}

-- One whose bytes were written leaves what its turn does, with what is left moved to the front.
pub written_step : {ended : Bool} {s renewed after : List ℕ} {t : Turn} → Turned ended s renewed t
    → after ≡ at_front (drop t.read renewed) renewed
    → Stepped ended s after
    (Ok (record { more = t.more; ended = ended; left = length after - t.read; read = t.read; refused = t.refused }))
unfolding turn_of
written_step {ended} {s} {renewed} {after} {t} turned moved =
    let rest = rest_of s in
    let read_is = ap (λ x. x.read) turned.is in
    let more_is = ap (λ x. x.more) turned.is in
    let front : after ≡ rest ++ drop (length rest) renewed = moved ∙ ap (λ r. at_front r renewed) turned.rest_after in
    let long : length after ≡ length s =
    omega (
      arith,
      ap length front,
      length-append rest (drop (length rest) renewed),
      length-drop (length rest) renewed,
      turned.same_length,
      rest_shorter s,
    )
    in
    let left_is : length after - t.read ≡ length rest = omega (arith, read_is, rest_shorter s) in
    record {
      leaves = record {
        left_within = omega arith;
        goes_on = λ e. more_is;
        left_is = λ e. left_is;
        read_is = λ e. read_is;
        rest_in_front = λ e. ap₂ take left_is front ∙ take-append_seam rest (drop (length rest) renewed);
        left_short = λ go. omega (arith, left_is, steps.left_short ended s (sym more_is ∙ go));
      };
      ended_is = refl;
      refused_is = ap (λ x. x.refused) turned.is;
    }

-- A step on the front of a buffer leaves the rest of it.
in_front : (ended : Bool) (s after rest : List ℕ) (r : Result Step Failure) → Stepped ended s after r
    → Stepped ended s (after ++ rest) r
in_front ended s after rest (Ok r) stepped =
    record {
      leaves = steps.in_front rest stepped.leaves;
      ended_is = stepped.ended_is;
      refused_is = stepped.refused_is;
    }
in_front ended s after rest (Err _) stepped = steps.in_front rest stepped

-- A step that reads.
pub read_step : (after : List ℕ) (r : Result Step Failure) (kept count : ℕ) (buffer part tail rest : List ℕ)
    → kept < 64
    → 64 ≤ length buffer
    → count ≤ length part
    → Stepped (eqb count 0) (take (kept + count) (take kept buffer ++ (part ++ tail))) after r
    → ReadAndRenewed (take kept buffer) (after ++ rest) r
read_step after r kept count buffer part tail rest short room l stepped =
    steps.read_step {Holds = λ ended s. Stepped ended s (after ++ rest) r} kept count buffer part tail (omega arith) l
    (in_front _ _ after rest r stepped)

-- Where the run goes on, the next read has room.
pub room_left : {kept after : List ℕ} {r : Step} → ReadAndRenewed kept after (Ok r) → not r.more ≡ false → r.left < 64
room_left read goes_on = read.holds.leaves.left_short (not-false _ goes_on)
