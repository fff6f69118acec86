-- However the input comes in pieces, a run writes what is to be written of the whole of it.
use Prim.Native.Nat.{ℕ}
use mathlib.Core.Path.{◌≡◌, refl, ap, sym, ◌∙◌}
use mathlib.Core.Bool.{Bool, true, false, cond}
use mathlib.Core.List.{List, [], ◌∷◌, ◌++◌, append_assoc, append-nil}
use lib.ListN.{take, drop}
use Rattle.calendar.proofs.Cases.{by_bool}
use Rattle.citation.specs.Record.{length_field}
use Rattle.framing.specs.Framing.{misframed, framed, Framing, framing, rest_of}
use Rattle.framing.specs.Run.{Writer, text_of, whole_by, turn_by, input_of, run_by, EndsThere}
use Rattle.framing.proofs.Framed.{still_misframed}
use Rattle.framing.proofs.Cutting.{framing_none, framing_more, framing_append}

pub text_append : (of : List ℕ → List ℕ) (a b : List (List ℕ)) → text_of of (a ++ b) ≡ text_of of a ++ text_of of b
unfolding text_of
text_append of [] b = refl
text_append of (r ∷ a) b = ap (λ t. of r ++ t) (text_append of a b) ∙ sym (append_assoc (of r) (text_of of a) (text_of of b))

module _ (w : Writer) where
  abbrev written : Framing → List ℕ
  written f = text_of w.of f.records ++ w.ending f.rest

  -- What is written of an input goes record by record.
  pub whole_none : (s : List ℕ) → framed s ≡ false → whole_by w s ≡ w.ending s
  unfolding text_of
  whole_none s e = ap written (framing_none s e)

  pub whole_more : (s : List ℕ) → framed s ≡ true
      → whole_by w s ≡ w.of (take (length_field s) s) ++ whole_by w (drop (length_field s) s)
  unfolding text_of
  whole_more s e =
      let others = framing (drop (length_field s) s) in
      ap written (framing_more s e)
      ∙ append_assoc (w.of (take (length_field s) s)) (text_of w.of others.records) (w.ending others.rest)

  abbrev records_of : List ℕ → List ℕ
  records_of s = text_of w.of (framing s).records

  -- What is written of the records of s, and then of its rest and t, is written of s and t.
  pub records_first : (s t : List ℕ) → whole_by w (s ++ t) ≡ text_of w.of (framing s).records ++ whole_by w (rest_of s ++ t)
  records_first s t =
      let f = framing (rest_of s ++ t) in
      ap written (framing_append t s)
      ∙ ap (λ x. x ++ w.ending f.rest) (text_append w.of (framing s).records f.records)
      ∙ append_assoc (records_of s) (text_of w.of f.records) (w.ending f.rest)

  module _ (ends : EndsThere w) where
    stops_there : (r t : List ℕ) → misframed r ≡ true → whole_by w (r ++ t) ≡ w.ending r ++ w.after t
    stops_there r t bad = whole_none (r ++ t) (still_misframed r t bad) ∙ ends r t bad

    run_from : (kept : List ℕ) (reads : List (List ℕ)) → run_by w kept reads ≡ whole_by w (kept ++ input_of reads)
    unfolding run_by input_of turn_by
    run_from kept [] = ap (whole_by w) (sym (append-nil kept))
    run_from kept (got ∷ reads) =
        let s = kept ++ got in
        let rest = rest_of s in
        let others = input_of reads in
        let whole : whole_by w (kept ++ (got ++ others)) ≡ records_of s ++ whole_by w (rest ++ others) =
        ap (whole_by w) (sym (append_assoc kept got others)) ∙ records_first s others
        in
        let turn : Bool → List ℕ = λ b. (records_of s ++ cond b (w.ending rest) []) ++ cond b (w.after others) (run_by w rest reads) in
        by_bool (misframed rest)
        (λ bad.
        ap turn bad
        ∙ append_assoc (records_of s) (w.ending rest) (w.after others)
        ∙ ap (λ x. records_of s ++ x) (sym (stops_there rest others bad))
        ∙ sym whole)
        (λ sound.
        ap turn sound
        ∙ ap (λ x. x ++ run_by w rest reads) (append-nil (records_of s))
        ∙ ap (λ x. records_of s ++ x) (run_from rest reads)
        ∙ sym whole)

    pub run_is_whole : (reads : List (List ℕ)) → run_by w [] reads ≡ whole_by w (input_of reads)
    run_is_whole reads = run_from [] reads
