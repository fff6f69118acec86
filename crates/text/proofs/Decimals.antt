-- Decimal numbers by their size.
use Prim.Native.Nat.{ℕ, ◌/◌, ◌%◌, ◌^◌, ◌≤◌, ◌<◌}
use mathlib.Core.Path.{◌≡◌, sym, ap, ◌∙◌}
use mathlib.Core.Bool.{cond}
use mathlib.Core.List.{List, [], ◌∷◌, ◌++◌, append_assoc}
use native.Mathlib.Omega.{arith}
use lib.Dec.{ltb, eqb}
use borrow.Author.Tests.{lt-ltb, le-ltb}
use Rattle.calendar.proofs.Rising.{by_order}
use Rattle.text.specs.Decimal.{digit, two_digits, four_digits, below100, decimal}
use Rattle.text.specs.Wrote.{Wrote}
use Rattle.text.proofs.Writing.{wrote_as, wrote_then}

module _ (n : ℕ) where
  pub two_at_most : n < 100 → decimal n ≡ below100 n
  unfolding decimal
  two_at_most h = simp (lt-ltb n 100 h)

  -- one digit where there are no tens
  pub tens_or_not : n < 100 → (tens : ℕ) → tens ≡ cond (ltb n 10) 0 1
      → cond (eqb tens 0) (digit (n % 10) ∷ []) (two_digits n) ≡ decimal n
  tens_or_not h tens e =
      by_order n 10
      (λ l.
      let below = lt-ltb n 10 l in
      let one : n % 10 ≡ n = omega arith in
      let none : tens ≡ 0 = e ∙ simp below in
      let small : decimal n ≡ digit n ∷ [] = two_at_most h ∙ simp below in
      ap (λ t. cond (eqb t 0) (digit (n % 10) ∷ []) (two_digits n)) none ∙ ap (λ d. digit d ∷ []) one ∙ sym small)
      (λ l.
      let above = le-ltb n 10 l in
      let some : tens ≡ 1 = e ∙ simp above in
      let large : decimal n ≡ two_digits n = two_at_most h ∙ simp above in
      ap (λ t. cond (eqb t 0) (digit (n % 10) ∷ []) (two_digits n)) some ∙ sym large)

  pub four_at_most : 100 ≤ n → n < 10_000 → decimal (n / 100) ++ two_digits (n % 100) ≡ decimal n
  unfolding decimal
  four_at_most a b = simp (lt-ltb (n / 100) 100 (omega arith), le-ltb n 100 a, lt-ltb n 10_000 b)

  pub six_at_most : 10_000 ≤ n → n < 1_000_000
      → (decimal (n / 10_000) ++ two_digits (n / 100 % 100)) ++ two_digits (n % 100) ≡ decimal n
  unfolding decimal
  six_at_most a b =
      simp (
        lt-ltb (n / 10_000) 100 (omega arith),
        le-ltb n 100 (omega arith),
        le-ltb n 10_000 a,
        lt-ltb n 1_000_000 b,
        append_assoc,
      )

  pub eight_at_most : 1_000_000 ≤ n → n < 100_000_000
      → ((decimal (n / 1_000_000) ++ two_digits (n / 10_000 % 100)) ++ two_digits (n / 100 % 100)) ++ two_digits (n % 100) ≡ decimal n
  unfolding decimal
  eight_at_most a b =
      simp (
        lt-ltb (n / 1_000_000) 100 (omega arith),
        le-ltb n 100 (omega arith),
        le-ltb n 10_000 (omega arith),
        le-ltb n 1_000_000 a,
        lt-ltb n 100_000_000 b,
        append_assoc,
      )

  pub ten_at_most : 100_000_000 ≤ n → n < 10_000_000_000
      → (((decimal (n / 100_000_000) ++ two_digits (n / 1_000_000 % 100)) ++ two_digits (n / 10_000 % 100))
      ++ two_digits (n / 100 % 100))
      ++ two_digits (n % 100)
      ≡ decimal n
  unfolding decimal
  ten_at_most a b =
      simp (
        lt-ltb (n / 100_000_000) 100 (omega arith),
        le-ltb n 100 (omega arith),
        le-ltb n 10_000 (omega arith),
        le-ltb n 1_000_000 (omega arith),
        le-ltb n 100_000_000 a,
        append_assoc,
      )

-- So a number is written two digits at a time.
pub wrote_small : {b a : List ℕ} {at e n tens : ℕ} → n < 100 → tens ≡ cond (ltb n 10) 0 1
    → Wrote b at (cond (eqb tens 0) (digit (n % 10) ∷ []) (two_digits n)) a e
    → Wrote b at (decimal n) a e
wrote_small {n = n} {tens = tens} h t w = wrote_as (tens_or_not n h tens t) w

pub wrote_two : (n : ℕ) {b a : List ℕ} {at e first second : ℕ} → first ≡ digit (n / 10) → second ≡ digit (n % 10)
    → Wrote b at (first ∷ second ∷ []) a e
    → Wrote b at (two_digits n) a e
wrote_two n p q w = wrote_as (λ j. p j ∷ q j ∷ []) w

pub wrote_four : {b m a : List ℕ} {at p e n : ℕ} → 100 ≤ n → n < 10_000
    → Wrote b at (decimal (n / 100)) m p
    → Wrote m p (two_digits (n % 100)) a e
    → Wrote b at (decimal n) a e
wrote_four {n = n} l h w v = wrote_as (four_at_most n l h) (wrote_then w v)

pub wrote_six : {b m₁ m₂ a : List ℕ} {at p₁ p₂ e n : ℕ} → 10_000 ≤ n → n < 1_000_000
    → Wrote b at (decimal (n / 10_000)) m₁ p₁
    → Wrote m₁ p₁ (two_digits (n / 100 % 100)) m₂ p₂
    → Wrote m₂ p₂ (two_digits (n % 100)) a e
    → Wrote b at (decimal n) a e
wrote_six {n = n} l h w v₁ v₂ = wrote_as (six_at_most n l h) (wrote_then (wrote_then w v₁) v₂)

pub wrote_eight : {b m₁ m₂ m₃ a : List ℕ} {at p₁ p₂ p₃ e n : ℕ} → 1_000_000 ≤ n → n < 100_000_000
    → Wrote b at (decimal (n / 1_000_000)) m₁ p₁
    → Wrote m₁ p₁ (two_digits (n / 10_000 % 100)) m₂ p₂
    → Wrote m₂ p₂ (two_digits (n / 100 % 100)) m₃ p₃
    → Wrote m₃ p₃ (two_digits (n % 100)) a e
    → Wrote b at (decimal n) a e
wrote_eight {n = n} l h w v₁ v₂ v₃ =
    wrote_as (eight_at_most n l h) (wrote_then (wrote_then (wrote_then w v₁) v₂) v₃)

one_digit : (n : ℕ) → n < 10 → digit n ∷ [] ≡ decimal n
unfolding decimal
one_digit n h = simp (lt-ltb n 100 (omega arith), lt-ltb n 10 h)

pub wrote_seven : {b m₁ m₂ m₃ a : List ℕ} {at p₁ p₂ p₃ e n : ℕ} → 1_000_000 ≤ n → n < 10_000_000
    → Wrote b at (digit (n / 1_000_000) ∷ []) m₁ p₁
    → Wrote m₁ p₁ (two_digits (n / 10_000 % 100)) m₂ p₂
    → Wrote m₂ p₂ (two_digits (n / 100 % 100)) m₃ p₃
    → Wrote m₃ p₃ (two_digits (n % 100)) a e
    → Wrote b at (decimal n) a e
wrote_seven {n = n} l h w = wrote_eight l (omega arith) (wrote_as (one_digit (n / 1_000_000) (omega arith)) w)

pub wrote_four_digits : {b m a : List ℕ} {at p e : ℕ} (n : ℕ) → Wrote b at (two_digits (n / 100)) m p
    → Wrote m p (two_digits (n % 100)) a e → Wrote b at (four_digits n) a e
wrote_four_digits n w v = wrote_then w v

-- The same digits, four at a time.
fours : (n : ℕ) → ((decimal (n / 100_000_000) ++ four_digits (n / 10_000 % 10_000)) ++ four_digits (n % 10_000))
    ≡ (((decimal (n / 100_000_000) ++ two_digits (n / 1_000_000 % 100)) ++ two_digits (n / 10_000 % 100))
    ++ two_digits (n / 100 % 100))
    ++ two_digits (n % 100)
fours n =
    let first : n / 10_000 % 10_000 / 100 ≡ n / 1_000_000 % 100 = omega arith in
    let second : n / 10_000 % 10_000 % 100 ≡ n / 10_000 % 100 = omega arith in
    let third : n % 10_000 / 100 ≡ n / 100 % 100 = omega arith in
    let fourth : n % 10_000 % 100 ≡ n % 100 = omega arith in
    (λ i. (decimal (n / 100_000_000) ++ (two_digits (first i) ++ two_digits (second i))) ++ (two_digits (third i) ++ two_digits (fourth i)))
    ∙ simp append_assoc

pub wrote_ten : {b m₁ m₂ a : List ℕ} {at p₁ p₂ e n : ℕ} → 100_000_000 ≤ n → n < 2 ^ 32
    → Wrote b at (decimal (n / 100_000_000)) m₁ p₁
    → Wrote m₁ p₁ (four_digits (n / 10_000 % 10_000)) m₂ p₂
    → Wrote m₂ p₂ (four_digits (n % 10_000)) a e
    → Wrote b at (decimal n) a e
wrote_ten {n = n} l h w v₁ v₂ =
    wrote_as (fours n ∙ ten_at_most n l (omega arith)) (wrote_then (wrote_then w v₁) v₂)
