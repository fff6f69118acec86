-- Decimal arguments, digit by digit.
use Prim.Native.Nat.{ℕ, ◌+◌, ◌*◌, ◌-◌, ◌≤◌, ◌<◌, min}
use mathlib.Core.Path.{◌≡◌, refl, sym, ap, ap₂, ◌∙◌}
use mathlib.Core.Bool.{Bool, true, false, true≢false, cond, ◌&&◌}
use mathlib.Core.List.{List, [], ◌∷◌}
use Rattle.std.specs.Prelude.{Some, None, is_some}
use Rattle.std.proofs.Common.{unwrap_or}
use native.Mathlib.Numerals.{add-one}
use native.Mathlib.Omega.{arith}
use lib.ListN.{length, drop, get_or, drop_of_length-le}
use lib.Seq.{drop-cons}
use borrow.Author.Tests.{le-leb, lt-leb}
use Rattle.calendar.proofs.Rising.{by_order}
use Rattle.text.specs.Decimal.{with_digits, number_of}
use Rattle.arguments.specs.Number.{most, is_digit, all_digits, is_number, argument_of}

-- More digits make no number smaller.
grows : (n : ℕ) (text : List ℕ) → n ≤ with_digits n text
unfolding with_digits
grows n [] = omega arith
grows n (byte ∷ text) = omega (arith, grows (n * 10 + (byte - 48)) text)

-- A number cut to the largest before further digits gives the same once cut.
cut_early : (n : ℕ) (text : List ℕ) → min most (with_digits (min most n) text) ≡ min most (with_digits n text)
cut_early n text =
    by_order most n
    (λ l. omega (arith, grows n text, grows (min most n) text))
    (λ l. let e : min most n ≡ n = omega arith in ap (λ m. min most (with_digits m text)) e)

-- The first i bytes of a text were read, digits all, and gave n: what is left decides.
pub record Reading (text : List ℕ) (n i : ℕ) : Type 0 where
  pub within : i ≤ length text
  pub digits : all_digits text ≡ all_digits (drop i text)
  pub value : min most (with_digits 0 text) ≡ min most (with_digits n (drop i text))

pub reading_starts : (text : List ℕ) → Reading text 0 0
reading_starts text = record { within = omega arith; digits = refl; value = refl }

some_text : (text : List ℕ) → 0 < length text
    → argument_of text ≡ cond (all_digits text) (Some (min most (with_digits 0 text))) None
unfolding argument_of is_number
some_text [] h = absurd (omega arith)
some_text (byte ∷ text) h = refl

module _ (text : List ℕ) (n i : ℕ) (r : Reading text n i) where
  abbrev byte : ℕ
  byte = get_or text i 0

  rest : i < length text → drop i text ≡ byte ∷ drop (i + 1) text
  rest h = rw (add-one, drop-cons text i 0)

  digits_left : i < length text → all_digits text ≡ is_digit byte && all_digits (drop (i + 1) text)
  unfolding all_digits
  digits_left h = r.digits ∙ ap all_digits (rest h)

  value_left : i < length text → min most (with_digits 0 text) ≡ min most (with_digits (n * 10 + (byte - 48)) (drop (i + 1) text))
  unfolding with_digits
  value_left h = r.value ∙ ap (λ t. min most (with_digits n t)) (rest h)

  pub reading_more : i < length text → is_digit byte ≡ true → Reading text (min most (n * 10 + (byte - 48))) (i + 1)
  reading_more h e =
      record {
        within = omega arith;
        digits = digits_left h ∙ ap (λ d. d && all_digits (drop (i + 1) text)) e;
        value = value_left h ∙ sym (cut_early (n * 10 + (byte - 48)) (drop (i + 1) text));
      }

  pub reading_stops : i < length text → is_digit byte ≡ false → None ≡ argument_of text
  reading_stops h e =
      let stop : all_digits text ≡ false = digits_left h ∙ ap (λ d. d && all_digits (drop (i + 1) text)) e in
      sym (some_text text (omega arith) ∙ ap (λ d. cond d (Some (min most (with_digits 0 text))) None) stop)

  pub reading_ends : length text ≤ i → 0 < length text → n ≤ most → Some n ≡ argument_of text
  unfolding all_digits with_digits
  reading_ends h some small =
      let none : drop i text ≡ [] = drop_of_length-le text h in
      let all : all_digits text ≡ true = r.digits ∙ ap all_digits none in
      let whole : min most n ≡ n = omega arith in
      let value : min most (with_digits 0 text) ≡ n = r.value ∙ ap (λ t. min most (with_digits n t)) none ∙ whole in
      sym (some_text text some ∙ ap₂ (λ d m. cond d (Some m) None) all value)

pub no_text : (text : List ℕ) → length text ≡ 0 → None ≡ argument_of text
unfolding argument_of is_number
no_text [] h = refl
no_text (byte ∷ text) h = absurd (omega arith)

-- What a digit's test tells.
pub a_digit : (byte : ℕ) → is_digit byte ≡ true → (48 ≤ byte) × (byte ≤ 57)
a_digit byte e =
    by_order byte 48
    (λ l. absurd (true≢false (sym e ∙ simp (lt-leb 48 byte l))))
    (λ l.
    by_order 57 byte
    (λ m. absurd (true≢false (sym e ∙ simp (le-leb 48 byte l, lt-leb byte 57 m))))
    (λ m. (l, m)))

-- What is read tells whether a text is a number, and which.
by_kind : (is_number : Bool) (n : ℕ) → is_some (cond is_number (Some n) None) ≡ is_number
by_kind true n = refl
by_kind false n = refl

pub no_number : (text : List ℕ) → argument_of text ≡ None → is_number text ≡ false
unfolding argument_of
no_number text e = sym (by_kind (is_number text) _) ∙ ap is_some e

module _ (text : List ℕ) (n : ℕ) (e : argument_of text ≡ Some n) where
  pub a_number : is_number text ≡ true
  unfolding argument_of
  a_number = sym (by_kind (is_number text) _) ∙ ap is_some e

  pub its_value : n ≡ min most (number_of text)
  unfolding argument_of
  its_value =
      let read = Some (min most (number_of text)) in
      ap (λ o. unwrap_or o 0) (sym e) ∙ ap (λ is_number. unwrap_or (cond is_number read None) 0) a_number

pub number_digits : (text : List ℕ) → is_number text ≡ true → all_digits text ≡ true
unfolding is_number
number_digits [] e = absurd (true≢false (sym e))
number_digits (_ ∷ _) e = e
