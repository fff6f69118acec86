-- What is left after the records.
use Prim.Native.Nat.{ℕ, ◌+◌, ◌-◌, ◌≤◌, ◌<◌}
use mathlib.Core.Path.{◌≡◌, ap, sym, ◌∙◌}
use mathlib.Core.Bool.{false}
use mathlib.Core.List.{List, ◌++◌, append_assoc}
use native.Mathlib.Omega.{arith}
use lib.Dec.{leb}
use lib.ListN.{length, take, drop, length-append, take-append-drop}
use lib.Seq.{drop_at}
use borrow.Author.Tests.{le-leb, leb-false}
use Rattle.calendar.proofs.Rising.{by_order}
use Rattle.reckoning.specs.ComputedRefusals.{outside}
use Rattle.reckoning.proofs.RefusalCases.{inside_of}
use Rattle.citation.specs.Record.{length_field}
use Rattle.framing.specs.Framing.{misframed, framed, Framing, framing, rest_of}
use Rattle.framing.specs.Run.{text_of}
use Rattle.framing.proofs.Cutting.{by_records, framing_none, framing_more}

-- The bytes of an input that is cut so.
abbrev pub bytes_of : Framing → List ℕ
bytes_of f = text_of (λ r. r) f.records ++ f.rest

-- The records and what is left are all of the input.
pub nothing_lost : (s : List ℕ) → s ≡ text_of (λ r. r) (framing s).records ++ rest_of s
unfolding text_of
nothing_lost =
    by_records {P = λ s. s ≡ bytes_of (framing s)}
    (λ s e. sym (ap bytes_of (framing_none s e)))
    (λ s e others.
    let n = length_field s in
    let f = framing (drop n s) in
    sym (take-append-drop n s)
    ∙ ap (λ t. take n s ++ t) others
    ∙ sym (append_assoc (take n s) (text_of (λ r. r) f.records) f.rest)
    ∙ sym (ap bytes_of (framing_more s e)))

-- So what is left is as long as the records leave it,
abbrev record_bytes : List ℕ → List ℕ
record_bytes s = text_of (λ r. r) (framing s).records

pub rest_length : (s : List ℕ) → length s ≡ length (text_of (λ r. r) (framing s).records) + length (rest_of s)
rest_length s = ap length (nothing_lost s) ∙ length-append (record_bytes s) (rest_of s)

pub rest_shorter : (s : List ℕ) → length (rest_of s) ≤ length s
rest_shorter s = omega (arith, rest_length s)

-- and stands after them.
pub rest_is : (s : List ℕ) → drop (length s - length (rest_of s)) s ≡ rest_of s
rest_is s =
    let long : length (record_bytes s) ≡ length s - length (rest_of s) = omega (arith, rest_length s) in
    ap (drop (length s - length (rest_of s))) (nothing_lost s) ∙ drop_at (record_bytes s) (rest_of s) _ long

-- No whole record is in front of it.
pub rest_no_record : (s : List ℕ) → framed (rest_of s) ≡ false
rest_no_record =
    by_records {P = λ s. framed (rest_of s) ≡ false}
    (λ s e. ap (λ f. framed f.rest) (framing_none s e) ∙ e)
    (λ s e others. ap (λ f. framed f.rest) (framing_more s e) ∙ others)

-- What is neither a record nor no record yet is shorter than the longest one.
pub unfinished : (r : List ℕ) → framed r ≡ false → misframed r ≡ false → length r < 64
unfinished r none sound =
    by_order (length r) 2
    (λ h. omega arith)
    (λ h.
    let has_field = le-leb 2 (length r) h in
    let right : outside 4 64 (length_field r) ≡ false = sym (simp has_field) ∙ sound in
    let most = (inside_of 4 64 (length_field r) right).at_most in
    let missing : leb (length_field r) (length r) ≡ false = sym (simp (has_field, right)) ∙ none in
    omega (arith, leb-false (length_field r) (length r) missing))
