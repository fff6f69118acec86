-- One turn, from what its steps leave.
use Rattle.std.proofs.Common.{◌≡◌, ℕ, ◌-◌, ◌≤◌, Bool, true, false, cond, not, ◌||◌, List, [], ◌++◌, length, take, drop, sym, ap, ◌∙◌, subst, ap₂, append-nil, arith, length-drop, take_all, take_at, drop_at}
use lib.Seq.{take-length}
use Rattle.calendar.proofs.Cases.{by_bool}
use Rattle.conversion.specs.Conversion.{renewed}
use Rattle.framing.specs.Framing.{misframed, framing, rest_of}
use Rattle.framing.specs.Run.{text_of, stops, turn_by}
use Rattle.framing.proofs.Rest.{rest_length}
use Rattle.renewal.specs.declared.Renewal.{Renewal}
use Rattle.renewal.specs.Renewal.{renewed_of, renewal_of}
use Rattle.renewal.proofs.WholeInput.{records_length, same_length}
use Rattle.renew_run.specs.Turn.{turn_text, turn_of, Turned}

module _ (ended : Bool) (s : List ℕ) where
  abbrev records : List ℕ
  records = text_of renewed (framing s).records

  -- The renewed records are as long as the records were.
  records_long : length records ≡ length s - length (rest_of s)
  records_long = omega (arith, records_length (framing s).records, rest_length s)

  text_by : {b : Bool} → stops ended s ≡ b → turn_text ended s ≡ records ++ cond b (rest_of s) []
  unfolding turn_by
  text_by e = ap (λ b. records ++ cond b (rest_of s) []) e

  -- So many bytes of what is renewed are what is to be written.
  abbrev Front : ℕ → Type 0
  Front n = (n ≡ length (turn_text ended s)) × (take n (renewed_of s) ≡ turn_text ended s) × (n ≤ length s)

  all_written : stops ended s ≡ true → Front (length (renewed_of s))
  all_written e =
      let whole = sym (text_by e) in
      (ap length whole, take-length (renewed_of s) ∙ whole, omega (arith, same_length s))

  records_written : stops ended s ≡ false → Front (length s - length (rest_of s))
  records_written e =
      let text = text_by e ∙ append-nil records in (
        sym (ap length text ∙ records_long),
        take_at records (rest_of s) (length s - length (rest_of s)) records_long ∙ sym text,
        omega arith,
      )

  module _ {r : Renewal} {after : List ℕ} (is : r ≡ renewal_of s) (renewed_is : after ≡ renewed_of s) where
    read_is : r.read ≡ length s - length (rest_of s)
    unfolding renewal_of
    read_is = ap (λ x. x.read) is

    pub read_within : r.read ≤ length after
    read_within = omega (arith, read_is, ap length renewed_is, same_length s)

    -- what is left
    rest_after : drop r.read after ≡ rest_of s
    rest_after = ap₂ drop read_is renewed_is ∙ drop_at records (rest_of s) (length s - length (rest_of s)) records_long

    -- it is lent as a part of the buffer
    part_is : take (length after - r.read) (drop r.read after) ≡ rest_of s
    part_is =
        take_all (length after - r.read) (drop r.read after) (omega (arith, length-drop r.read after)) ∙ rest_after

    pub turned : {more : Bool} {written : ℕ}
        → more ≡ not (ended || misframed (take (length after - r.read) (drop r.read after)))
        → written ≡ cond more r.read (length after)
        → Turned ended s after (record { read = r.read; written = written; more = more; refused = r.refused })
    unfolding turn_of renewal_of
    turned {more} {written} goes_on written_is =
        let more_is : more ≡ not (stops ended s) = goes_on ∙ ap (λ t. not (ended || misframed t)) part_is in
        let front : Front written =
        by_bool (stops ended s)
        (λ e.
        let w : written ≡ length (renewed_of s) =
        written_is ∙ ap (λ m. cond m r.read (length after)) (more_is ∙ ap not e) ∙ ap length renewed_is
        in
        subst Front (sym w) (all_written e))
        (λ e.
        let w : written ≡ length s - length (rest_of s) =
        written_is ∙ ap (λ m. cond m r.read (length after)) (more_is ∙ ap not e) ∙ read_is
        in
        subst Front (sym w) (records_written e))
        in
        record {
          is = λ i. record { read = read_is i; written = front.0 i; more = more_is i; refused = (is i).refused };
          renewed = renewed_is;
          front = ap (take written) renewed_is ∙ front.1;
          rest_after = rest_after;
          same_length = ap length renewed_is ∙ same_length s;
          read_within = omega (arith, read_is);
          written_within = front.2;
        }
