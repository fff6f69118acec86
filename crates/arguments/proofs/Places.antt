-- Numbers of any length, place by place from the highest down.
use Prim.Native.Nat.{ℕ, zero, suc, ◌+◌, ◌*◌, ◌-◌, ◌≤◌, ◌<◌, min, max}
use mathlib.Core.Path.{◌≡◌, refl, sym, ap, ap₂, subst, ◌∙◌}
use mathlib.Core.Bool.{true}
use mathlib.Core.List.{List, [], ◌∷◌, ◌++◌}
use native.Mathlib.Omega.{arith}
use lib.ListN.{length, take, get_or}
use lib.Seq.{take-suc, take-length}
use borrow.Author.Tests.{le-leb, lt-leb}
use Rattle.calendar.proofs.Cases.{both}
use Rattle.calendar.proofs.Rising.{by_order}
use Rattle.text.specs.Decimal.{with_digits, number_of}
use Rattle.arguments.specs.Number.{is_digit, all_digits}
use Rattle.arguments.specs.Ranges.{longest, digit_at, count_of}
use Rattle.arguments.proofs.Digits.{a_digit}

-- one digit more after the last
digit_after : (n : ℕ) (text : List ℕ) (byte : ℕ) → with_digits n (text ++ byte ∷ []) ≡ with_digits n text * 10 + (byte - 48)
unfolding with_digits
digit_after n [] byte = refl
digit_after n (first ∷ text) byte = digit_after (n * 10 + (first - 48)) text byte

a_digit_at : (text : List ℕ) (i : ℕ) → all_digits text ≡ true → i < length text → is_digit (get_or text i 0) ≡ true
unfolding all_digits
a_digit_at [] i e h = absurd (omega arith)
a_digit_at (byte ∷ text) zero e h = (both (is_digit byte) (all_digits text) e).0
a_digit_at (byte ∷ text) (suc i) e h = a_digit_at text i (both (is_digit byte) (all_digits text) e).1 (omega arith)

module _ (text : List ℕ) where
  -- the number without its digits below a place
  abbrev pub above : ℕ → ℕ
  above place = number_of (take (length text - place) text)

  pub above_all : above 0 ≡ number_of text
  above_all =
      let e : length text - 0 ≡ length text = omega arith in
      ap (λ n. number_of (take n text)) e ∙ ap number_of (take-length text)

  pub above_first : (place : ℕ) → length text ≤ place → above place ≡ 0
  unfolding with_digits
  above_first place h = let e : length text - place ≡ 0 = omega arith in ap (λ n. number_of (take n text)) e

  pub no_digit : (place : ℕ) → length text ≤ place → digit_at text place ≡ 0
  no_digit place h = simp (le-leb (length text) place h)

  pub the_digit : (place : ℕ) → place < length text → digit_at text place ≡ get_or text (length text - 1 - place) 0 - 48
  the_digit place h = simp (lt-leb (length text) place h)

  pub next_place : (place : ℕ) → above place ≡ above (place + 1) * 10 + digit_at text place
  next_place place =
      by_order place (length text)
      (λ l.
      let i = length text - 1 - place in
      let more : length text - place ≡ suc i = omega arith in
      let less : length text - (place + 1) ≡ i = omega arith in
      ap (λ n. number_of (take n text)) more
      ∙ ap number_of (take-suc text i 0 (omega arith))
      ∙ digit_after 0 (take i text) (get_or text i 0)
      ∙ ap₂ (λ n d. n * 10 + d) (ap (λ n. number_of (take n text)) (sym less)) (sym (the_digit place l)))
      (λ l. omega (arith, above_first place l, above_first (place + 1) (omega arith), no_digit place l))

  pub digit_byte : (place : ℕ) → all_digits text ≡ true → place < length text
      → (48 ≤ get_or text (length text - 1 - place) 0) × (get_or text (length text - 1 - place) 0 ≤ 57)
  digit_byte place e h = a_digit _ (a_digit_at text (length text - 1 - place) e (omega arith))

  pub small_digit : (place : ℕ) → all_digits text ≡ true → digit_at text place ≤ 9
  small_digit place e =
      by_order place (length text)
      (λ l. omega (arith, the_digit place l, digit_byte place e l))
      (λ l. omega (arith, no_digit place l))

-- The last number is so far ahead of the first, both without their digits below a place.
pub record Ahead (first last : List ℕ) (ahead place : ℕ) : Type 0 where
  pub not_behind : above first place ≤ above last place
  pub is : ahead ≡ min longest (above last place - above first place)

module _ (first last : List ℕ) where
  pub ahead_starts : (place : ℕ) → place ≡ max (length first) (length last) → Ahead first last 0 place
  ahead_starts place e =
      let f = above_first first place (omega arith) in
      let l = above_first last place (omega arith) in
      record { not_behind = omega arith; is = omega arith }

  pub ahead_ends : (ahead place : ℕ) → Ahead first last ahead place → place ≡ 0 → min longest (ahead + 1) ≡ count_of first last
  ahead_ends ahead place a none =
      let end = subst (Ahead first last ahead) none a in
      omega (arith, end.is, end.not_behind, above_all first, above_all last)

  module _ (first_digits : all_digits first ≡ true) (last_digits : all_digits last ≡ true) where
    stays_behind : (place : ℕ) → above last place < above first place → number_of last < number_of first
    stays_behind zero h = omega (arith, above_all first, above_all last)
    stays_behind (suc place) h =
        stays_behind place
        (let e : suc place ≡ place + 1 = omega arith in
        let h' : above last (place + 1) < above first (place + 1) = subst (λ p. above last p < above first p) e h in
        omega (arith, next_place first place, next_place last place, small_digit last place last_digits))

    module _ (ahead place : ℕ) (a : Ahead first last ahead place) (some : 0 < place) where
      abbrev first_digit : ℕ
      first_digit = digit_at first (place - 1)

      abbrev last_digit : ℕ
      last_digit = digit_at last (place - 1)

      before : Ahead first last ahead (place - 1 + 1)
      before = let e : place ≡ place - 1 + 1 = omega arith in subst (Ahead first last ahead) e a

      pub ahead_next : (n : ℕ) → n ≡ min longest (ahead * 10 + last_digit - first_digit)
          → first_digit ≤ ahead * 10 + last_digit → Ahead first last n (place - 1)
      ahead_next n e h =
          let f = next_place first (place - 1) in
          let l = next_place last (place - 1) in
          let small = small_digit first (place - 1) first_digits in
          record { not_behind = omega (arith, before.is, before.not_behind); is = omega (arith, before.is, before.not_behind) }

      pub ahead_stops : ahead * 10 + last_digit < first_digit → 0 ≡ count_of first last
      ahead_stops h =
          let f = next_place first (place - 1) in
          let l = next_place last (place - 1) in
          let small = small_digit first (place - 1) first_digits in
          let behind = stays_behind (place - 1) (omega (arith, before.is, before.not_behind)) in
          omega arith
