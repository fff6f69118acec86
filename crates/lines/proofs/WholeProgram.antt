-- Buffer after buffer, the program writes what it is to write on the whole input.
use Prim.Native.Nat.{ℕ, ◌+◌}
use mathlib.Core.Path.{◌≡◌, refl, subst, ap, ap₂, sym, ◌∙◌}
use mathlib.Core.Bool.{true}
use mathlib.Core.List.{List, ◌++◌, append_assoc}
use lib.ListN.{take, drop}
use lib.Seq.{drop-drop}
use Rattle.calendar.proofs.Rising.{by_order}
use Rattle.citation.specs.Record.{length_field}
use Rattle.framing.specs.Framing.{framed, framing}
use Rattle.framing.proofs.Framed.{still_framed, same_front, same_back}
use Rattle.framing.proofs.Cutting.{by_records}
use Rattle.lines.specs.Line.{line_of}
use Rattle.lines.specs.Program.{output_of, Portion, no_portion, portion_then, portion_of}
use Rattle.lines.proofs.Cutting.{output_line, portion_full, portion_none, portion_more}

module _ (t : List ℕ) where
  -- The lines of a portion of s, and then what is written on its rest and t, are what is written on s and t.
  abbrev First : List ℕ → Portion → Type 0
  First s p = output_of (s ++ t) ≡ p.text ++ output_of (drop p.read s ++ t)

  nothing_first : (s : List ℕ) (size : ℕ) → portion_of s size ≡ no_portion → First s (portion_of s size)
  nothing_first s size e = subst (First s) (sym e) refl

  line_first : (s : List ℕ) (q : Portion) → framed s ≡ true → First (drop (length_field s) s) q
      → First s (portion_then (length_field s) (line_of (take (length_field s) s)) q)
  line_first s q e others =
      let n = length_field s in
      let line = line_of (take n s) in
      let on : drop q.read (drop n s) ≡ drop (n + q.read) s = drop-drop q.read n s in
      output_line (s ++ t) (still_framed s t e)
      ∙ ap₂ (λ front back. line_of front ++ output_of back) (same_front s t e) (same_back s t e)
      ∙ ap (λ rest. line ++ rest) (others ∙ ap (λ rest. q.text ++ output_of (rest ++ t)) on)
      ∙ sym (append_assoc line q.text (output_of (drop (n + q.read) s ++ t)))

  pub buffer_first : (s : List ℕ) (size : ℕ) → output_of (s ++ t) ≡ (portion_of s size).text ++ output_of (drop (portion_of s size).read s ++ t)
  buffer_first =
      by_records {P = λ s. (size : ℕ) → First s (portion_of s size)}
      (λ s e size. nothing_first s size (portion_none s size e))
      (λ s e others size.
      by_order size 64
      (λ full. nothing_first s size (portion_full (framing s).records size full))
      (λ room. subst (First s) (sym (portion_more s size room e)) (line_first s _ e (others _))))
