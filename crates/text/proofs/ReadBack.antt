-- A number that is written reads back as itself.
use Prim.Native.Nat.{ℕ, ◌+◌, ◌*◌, ◌-◌, ◌/◌, ◌%◌, ◌<◌}
use mathlib.Core.Path.{◌≡◌, refl, ap, sym, ◌∙◌}
use mathlib.Core.List.{List, [], ◌∷◌, ◌++◌}
use native.Mathlib.Omega.{arith}
use borrow.Author.Tests.{lt-ltb, le-ltb}
use Rattle.calendar.proofs.Rising.{by_order}
use Rattle.text.specs.Decimal.{digit, two_digits, decimal, with_digits, number_of}
use Rattle.text.proofs.Decimals.{two_at_most, four_at_most, six_at_most, eight_at_most, ten_at_most}

digits_then : (n : ℕ) (text more : List ℕ) → with_digits n (text ++ more) ≡ with_digits (with_digits n text) more
unfolding with_digits
digits_then n [] more = refl
digits_then n (byte ∷ text) more = digits_then (n * 10 + (byte - digit 0)) text more

two_more : (n q : ℕ) → q < 100 → with_digits n (two_digits q) ≡ n * 100 + q
unfolding with_digits
two_more n q h = omega arith

one_or_two : (q : ℕ) → q < 100 → number_of (decimal q) ≡ q
unfolding with_digits
one_or_two q h =
    by_order q 10
    (λ l. let one : decimal q ≡ digit q ∷ [] = two_at_most q h ∙ simp (lt-ltb q 10 l) in ap number_of one ∙ omega arith)
    (λ l. let two : decimal q ≡ two_digits q = two_at_most q h ∙ simp (le-ltb q 10 l) in ap number_of two ∙ omega arith)

-- two digits more after a text that reads as m
then_two : (text : List ℕ) (m q : ℕ) → number_of text ≡ m → q < 100 → number_of (text ++ two_digits q) ≡ m * 100 + q
then_two text m q e h = digits_then 0 text (two_digits q) ∙ ap (λ n. with_digits n (two_digits q)) e ∙ two_more m q h

pub reads_back : (n : ℕ) → n < 10_000_000_000 → number_of (decimal n) ≡ n
reads_back n h =
    by_order n 100
    (λ a. one_or_two n a)
    (λ a.
    by_order n 10_000
    (λ b.
    ap number_of (sym (four_at_most n a b))
    ∙ then_two (decimal (n / 100)) (n / 100) (n % 100) (one_or_two (n / 100) (omega arith)) (omega arith)
    ∙ omega arith)
    (λ b.
    by_order n 1_000_000
    (λ c.
    let q = n / 10_000 in
    let two = then_two (decimal q) q (n / 100 % 100) (one_or_two q (omega arith)) (omega arith) in
    ap number_of (sym (six_at_most n b c))
    ∙ then_two _ _ (n % 100) two (omega arith)
    ∙ omega arith)
    (λ c.
    by_order n 100_000_000
    (λ d.
    let q = n / 1_000_000 in
    let two = then_two (decimal q) q (n / 10_000 % 100) (one_or_two q (omega arith)) (omega arith) in
    let four = then_two _ _ (n / 100 % 100) two (omega arith) in
    ap number_of (sym (eight_at_most n c d))
    ∙ then_two _ _ (n % 100) four (omega arith)
    ∙ omega arith)
    (λ d.
    let q = n / 100_000_000 in
    let two = then_two (decimal q) q (n / 1_000_000 % 100) (one_or_two q (omega arith)) (omega arith) in
    let four = then_two _ _ (n / 10_000 % 100) two (omega arith) in
    let six = then_two _ _ (n / 100 % 100) four (omega arith) in
    ap number_of (sym (ten_at_most n d h))
    ∙ then_two _ _ (n % 100) six (omega arith)
    ∙ (let millions : n / 1_000_000 ≡ q * 100 + n / 1_000_000 % 100 = omega arith in
    let ten_thousands : n / 10_000 ≡ n / 1_000_000 * 100 + n / 10_000 % 100 = omega arith in
    let hundreds : n / 100 ≡ n / 10_000 * 100 + n / 100 % 100 = omega arith in
    omega arith)))))
