-- One turn, from what its steps leave.
use Rattle.std.proofs.Common.{◌≡◌, ℕ, ◌+◌, ◌-◌, ◌*◌, ◌≤◌, Bool, true, false, cond, not, ◌||◌, List, [], ◌++◌, length, take, drop, sym, refl, ap, ◌∙◌, subst, ap₂, arith, length-append, length-drop, take_all}
use Rattle.text.specs.Put.{Put}
use Rattle.text.specs.Wrote.{Wrote}
use Rattle.text.proofs.Putting.{put_nothing, put_wrote}
use Rattle.text.proofs.Writing.{wrote_as, wrote_then}
use Rattle.lines.specs.declared.buffer.Progress.{Progress}
use Rattle.framing.specs.Framing.{misframed, framing, rest_of}
use Rattle.framing.specs.Buffer.{at_front}
use Rattle.framing.specs.Run.{stops, turn_by}
use Rattle.framing.proofs.Rest.{rest_shorter, rest_is}
use Rattle.framing.proofs.Stepping.{left_short}
use Rattle.lines.specs.Program.{lines_of, ending_of, progress_of, portion_of, LinesPut}
use Rattle.lines.proofs.AllRecords.{all_records, lines_short}
use Rattle.chiselbrow_run.specs.Turn.{turn_text, turn_of, Turned}

-- The line for what is left, where the run goes on and where it does not.
module _ {b : List ℕ} {at room : ℕ} {more : Bool} (text : List ℕ) where
  pub put_no_end : more ≡ true → Put b at room (cond more [] text) b at
  put_no_end e = subst (λ m. Put b at room (cond m [] text) b at) (sym e) (put_nothing b at room)

  pub put_end_lem : {a : List ℕ} {end : ℕ} → more ≡ false → Put b at room text a end → Put b at room (cond more [] text) a end
  put_end_lem {a} {end} e p = subst (λ m. Put b at room (cond m [] text) a end) (sym e) p

other_way : (b : Bool) (text : List ℕ) → cond (not b) [] text ≡ cond b text []
other_way true text = refl
other_way false text = refl

module _ (ended : Bool) (s before m : List ℕ) (p : Progress) (room : 16 * length s + 64 ≤ length before)
    (lines_put : LinesPut s before m p) where
  abbrev lines : List ℕ
  lines = lines_of (framing s).records

  all_taken : portion_of s (length before) ≡ record { read = length s - length (rest_of s); text = lines }
  all_taken = all_records s (length before) (omega arith)

  read_is : p.read ≡ length s - length (rest_of s)
  read_is = ap (λ q. q.read) (lines_put.progress ∙ ap progress_of all_taken)

  written_is : p.written ≡ length lines
  written_is = ap (λ q. q.written) (lines_put.progress ∙ ap progress_of all_taken)

  -- what is left is lent as a part of the buffer
  part_is : take (length s - p.read) (drop p.read s) ≡ rest_of s
  part_is =
      take_all (length s - p.read) (drop p.read s) (omega (arith, length-drop p.read s))
      ∙ ap (λ n. drop n s) read_is
      ∙ rest_is s

  first : Wrote before 0 lines m p.written
  first =
      let short = lines_short s in
      let start : 0 + length lines ≡ length lines = omega arith in
      record {
        is = lines_put.output ∙ ap (λ q. at_front q.text before) all_taken ∙ ap (λ n. lines ++ drop n before) (sym start);
        ends = written_is ∙ sym start;
        fits = omega (arith, written_is);
        same_length = lines_put.same_length;
      }

  pub turned : {after kept : List ℕ} {written : ℕ} {more : Bool}
      → more ≡ not (ended || misframed (take (length s - p.read) (drop p.read s)))
      → Put m p.written 19 (cond more [] (ending_of (take (length s - p.read) (drop p.read s)))) after written
      → kept ≡ at_front (drop p.read s) s
      → Turned ended s kept before after (record { read = p.read; left = length s - p.read; written = written; more = more })
  unfolding turn_by turn_of
  turned {after} {kept} {written} {more} goes_on Ended-by moved =
      let left = drop p.read s in
      let short = lines_short s in
      let less = rest_shorter s in
      let more_is : more ≡ not (stops ended s) = goes_on ∙ ap (λ r. not (ended || misframed r)) part_is in
      let ending_is : cond more [] (ending_of (take (length s - p.read) (drop p.read s))) ≡ cond (stops ended s) (ending_of (rest_of s)) [] =
      ap₂ (λ b r. cond b [] (ending_of r)) more_is part_is ∙ other_way (stops ended s) (ending_of (rest_of s))
      in
      let last = wrote_as ending_is (put_wrote Ended-by (omega (arith, written_is, lines_put.same_length))) in
      let whole : Wrote before 0 (turn_text ended s) after written = wrote_then first last in
      let left_is : length s - p.read ≡ length (rest_of s) = omega (arith, read_is) in
      let start : 0 + length (turn_text ended s) ≡ length (turn_text ended s) = omega arith in
      let written_all : written ≡ length (turn_text ended s) = whole.ends ∙ start in
      record {
        is = λ i. record { read = read_is i; left = left_is i; written = written_all i; more = more_is i };
        output = whole.is ∙ ap (λ n. turn_text ended s ++ drop n before) start;
        rest_in_front = moved ∙ ap (λ r. at_front r s) (ap (λ n. drop n s) read_is ∙ rest_is s);
        left_within = omega (arith, ap length moved, length-append left (drop (length left) s), length-drop p.read s);
        written_within = omega (arith, whole.fits, whole.same_length);
        left_short = λ go. omega (arith, left_is, left_short ended s (sym more_is ∙ go));
      }
