-- A step that reads.
use Prim.Native.Nat.{ℕ, ◌+◌, ◌≤◌, ◌<◌}
use mathlib.Core.Path.{◌≡◌, refl, ap, ap₂, sym, subst, ◌∙◌}
use mathlib.Core.Bool.{Bool, true, false, true≢false, not, ◌||◌}
use mathlib.Core.List.{List, ◌++◌, append_assoc}
use native.Mathlib.Omega.{arith}
use lib.ListN.{length, take, drop, length-append}
use lib.Dec.{eqb}
use lib.Seq.{take-add, take_at, drop_at, take-append-le, length-take-le}
use Rattle.framing.specs.Framing.{misframed, rest_of}
use Rattle.framing.specs.Buffer.{at_front}
use Rattle.framing.specs.Run.{stops}
use Rattle.framing.specs.Stepped.{Stepped, AfterRead}
use Rattle.framing.proofs.Rest.{rest_no_record, unfinished}

-- Whether the run goes on before the end of the input, by the test for a length field that no record has.
pub going : {ended bad answered : Bool} → ended ≡ false → answered ≡ bad → not answered ≡ not (ended || bad)
going {ended} {bad} {answered} not-ended same = ap₂ (λ e b. not (e || b)) (sym not-ended) same

-- Where it goes on, no length field is bad, and little is left.
not_bad : (ended bad : Bool) → not (ended || bad) ≡ true → bad ≡ false
not_bad true bad e = absurd (true≢false (sym e))
not_bad false true e = absurd (true≢false (sym e))
not_bad false false e = refl

pub left_short : (ended : Bool) (s : List ℕ) → not (stops ended s) ≡ true → length (rest_of s) < 64
left_short ended s go = unfinished (rest_of s) (rest_no_record s) (not_bad ended (misframed (rest_of s)) go)

-- A step that failed promises nothing of the bytes.
pub failed_step : (ended : Bool) (s after : List ℕ) → Stepped ended s after true false 0 0
failed_step ended s after =
    record {
      left_within = omega arith;
      goes_on = λ e. absurd (true≢false e);
      left_is = λ e. absurd (true≢false e);
      read_is = λ e. absurd (true≢false e);
      rest_in_front = λ e. absurd (true≢false e);
      left_short = λ e. omega arith;
    }

-- What is left is in front of a buffer whose first bytes s were moved.
pub rest_in_front : (s tail : List ℕ) → take (length (rest_of s)) (at_front (rest_of s) s ++ tail) ≡ rest_of s
rest_in_front s tail =
    let rest = rest_of s in
    ap (take (length rest)) (append_assoc rest (drop (length rest) s) tail)
    ∙ take_at rest (drop (length rest) s ++ tail) (length rest) refl

-- A step on the front of a buffer leaves the rest of it.
pub in_front : {ended failed more : Bool} {s after : List ℕ} {left read : ℕ} (tail : List ℕ) → Stepped ended s after failed more left read
    → Stepped ended s (after ++ tail) failed more left read
in_front {after = after} {left = left} tail stepped =
    record {
      left_within = omega (arith, stepped.left_within, length-append after tail);
      goes_on = stepped.goes_on;
      left_is = stepped.left_is;
      read_is = stepped.read_is;
      rest_in_front = λ e. take-append-le left after tail stepped.left_within ∙ stepped.rest_in_front e;
      left_short = stepped.left_short;
    }

-- A step that reads, from what the read left in the rest of the buffer.
pub read_step : {Holds : Bool → List ℕ → Type 0} (kept count : ℕ) (buffer part tail : List ℕ) → kept ≤ length buffer → count ≤ length part
    → Holds (eqb count 0) (take (kept + count) (take kept buffer ++ (part ++ tail)))
    → AfterRead Holds (take kept buffer)
read_step {Holds} kept count buffer part tail room l held =
    let front = take kept buffer in
    let long = length-take-le kept buffer room in
    let bytes : take (kept + count) (front ++ (part ++ tail)) ≡ front ++ take count part =
    take-add kept count (front ++ (part ++ tail))
    ∙ ap₂ (λ a b. a ++ take count b) (take_at front (part ++ tail) kept long) (drop_at front (part ++ tail) kept long)
    ∙ ap (λ t. front ++ t) (take-append-le count part tail l)
    in
    let none : eqb count 0 ≡ eqb (length (take count part)) 0 = ap (λ n. eqb n 0) (sym (length-take-le count part l)) in
    record { got = take count part; holds = subst (Holds _) bytes (subst (λ b. Holds b (take (kept + count) (front ++ (part ++ tail)))) none held) }
