-- What is a whole record, and what is refused before a record is read.
use Prim.Native.Nat.{ℕ, ◌≤◌, ◌<◌}
use mathlib.Core.Path.{◌≡◌, refl, sym, ◌∙◌}
use mathlib.Core.Logic.{inl, inr}
use mathlib.Core.Bool.{true, false, true≢false, not}
use mathlib.Core.List.{List}
use native.Mathlib.Omega.{arith}
use lib.Dec.{eqb}
use lib.ListN.{length}
use borrow.Author.Tests.{eq-eqb, ne_eqb, lt-ltb, le-ltb}
use Rattle.calendar.specs.Inside.{Inside}
use Rattle.calendar.proofs.Rising.{by_order}
use Rattle.reckoning.specs.ComputedRefusals.{outside}
use Rattle.reckoning.specs.RefusalNumbers.{SHORT, KIND, RETIRED, LENGTH}
use Rattle.reckoning.proofs.RefusalCases.{inside, outside_of, by_inside}
use Rattle.citation.specs.Record.{length_field, kind_of, kind_length}
use Rattle.citation.specs.CitationRefusals.{WrongLength}
use Rattle.citation.specs.Store.{refuse, length_right, judge_kind, judge_of}
use Rattle.citation.specs.JudgeParts.{Whole, is_kind, is_whole}
use Rattle.citation.proofs.JudgementCases.{by_equal}

-- A kind has nine bytes or ten.
by_kind : {P : Type 0} (kind : ℕ) → (Inside 3 4 kind → kind_length kind ≡ 9 → P) → ((Inside 3 4 kind → ⊥) → kind_length kind ≡ 10 → P)
    → P
by_kind kind nine ten = by_inside 3 4 kind (λ e out. ten out (simp e)) (λ e into. nine into (simp e))

-- A kind that there is, and that is not retired.
abbrev Current : ℕ → Type 0
Current kind = Inside 1 5 kind × (kind ≡ 2 → ⊥)

by_current : {P : Type 0} (kind : ℕ) → (is_kind kind ≡ false → P) → (is_kind kind ≡ true → Current kind → P) → P
by_current kind other it =
    by_inside 1 5 kind
    (λ e out. other (simp e))
    (λ e into. by_equal kind 2 (λ two. other (simp (e, eq-eqb kind 2 two))) (λ not_two. it (simp (e, ne_eqb kind 2 not_two)) (into, not_two)))

-- Of the kinds, those that are not nine bytes long and not kind 1.
not_three_or_four : (kind : ℕ) → Inside 1 5 kind → (kind ≡ 2 → ⊥) → (kind ≡ 1 → ⊥) → (Inside 3 4 kind → ⊥) → kind ≡ 5
not_three_or_four kind k not_two not_one out =
    by_order kind 5
    (λ l. absurd (out (record { at_least = omega (arith, k); at_most = omega arith })))
    (λ l. omega (arith, k))

module _ (s : List ℕ) where
  -- A record's lengths are wrong or right.
  pub by_length : {P : Type 0} → (length_right s ≡ false → WrongLength s → P)
      → (length_right s ≡ true → (length_field s ≡ kind_length (kind_of s)) × (length s ≡ length_field s) → P)
      → P
  unfolding length_right
  by_length wrong right =
      by_equal (length_field s) (kind_length (kind_of s))
      (λ f.
      by_equal (length s) (length_field s)
      (λ g. right (simp (eq-eqb (length_field s) (kind_length (kind_of s)) f, eq-eqb (length s) (length_field s) g)) (f, g))
      (λ g.
      wrong (simp (eq-eqb (length_field s) (kind_length (kind_of s)) f, ne_eqb (length s) (length_field s) g)) (λ p. g p.1)))
      (λ f. wrong (simp (ne_eqb (length_field s) (kind_length (kind_of s)) f)) (λ p. f p.0))

  -- It is whole where kind and lengths are right, and not otherwise.
  is_whole_lem : Current (kind_of s) → length_field s ≡ kind_length (kind_of s) → length s ≡ length_field s → true ≡ is_whole s
  is_whole_lem k f g =
      by_length
      (λ l wrong. absurd (wrong (f, g)))
      (λ l right. simp (inside 1 5 (kind_of s) k.0, ne_eqb (kind_of s) 2 k.1, l))

  not_whole : (Current (kind_of s) → length_field s ≡ kind_length (kind_of s) → length s ≡ length_field s → ⊥) → false ≡ is_whole s
  not_whole never =
      by_current (kind_of s)
      (λ e. simp e)
      (λ e k. by_length (λ l wrong. simp (e, l)) (λ l right. absurd (never k right.0 right.1)))

  -- A length that no kind has, or that the length field does not tell;
  pub no_such_length : (Inside 9 10 (length s) → ⊥) → false ≡ is_whole s
  no_such_length out =
      not_whole
      (λ k f g.
      by_kind (kind_of s)
      (λ i nine. out (record { at_least = omega arith; at_most = omega arith }))
      (λ i ten. out (record { at_least = omega arith; at_most = omega arith })))

  pub another_length : (length s ≡ length_field s → ⊥) → false ≡ is_whole s
  another_length never = not_whole (λ k f g. never g)

  -- and one that it tells: nine bytes are of kind 3 or 4,
  pub whole_of_nine : length s ≡ 9 → length s ≡ length_field s → not (outside 3 4 (kind_of s)) ≡ is_whole s
  whole_of_nine n g =
      by_inside 3 4 (kind_of s)
      (λ e out. simp e (not_whole (λ k f g. by_kind (kind_of s) (λ i nine. out i) (λ i ten. omega arith))))
      (λ e into.
      simp e
      (is_whole_lem (record { at_least = omega (arith, into); at_most = omega (arith, into) }, λ two. omega (arith, into))
      (by_kind (kind_of s) (λ i nine. omega arith) (λ i ten. absurd (i into)))
      g))

  -- and ten of kind 1 or 5.
  module _ (n : length s ≡ 10) (g : length s ≡ length_field s) where
    ten_right : Current (kind_of s) → (Inside 3 4 (kind_of s) → ⊥) → true ≡ is_whole s
    ten_right k other = is_whole_lem k (by_kind (kind_of s) (λ i nine. absurd (other i)) (λ i ten. omega arith)) g

    pub whole_of_one : kind_of s ≡ 1 → true ≡ is_whole s
    whole_of_one e = ten_right (record { at_least = omega arith; at_most = omega arith }, λ two. omega arith) (λ i. omega (arith, i))

    pub whole_of_five : (kind_of s ≡ 1 → ⊥) → eqb (kind_of s) 5 ≡ is_whole s
    whole_of_five not_one =
        by_equal (kind_of s) 5
        (λ e.
        eq-eqb (kind_of s) 5 e
        ∙ ten_right (record { at_least = omega arith; at_most = omega arith }, λ two. omega arith) (λ i. omega (arith, i)))
        (λ not_five.
        ne_eqb (kind_of s) 5 not_five
        ∙ not_whole
        (λ k f g. by_kind (kind_of s) (λ i nine. omega arith) (λ i ten. not_five (not_three_or_four (kind_of s) k.0 k.1 not_one i))))

  -- One of a kind that there is lacks only the length.
  pub length_wrong : is_whole s ≡ false → Current (kind_of s) → length_right s ≡ false
  length_wrong other k =
      by_length (λ l wrong. l) (λ l right. absurd (true≢false (is_whole_lem k right.0 right.1 ∙ other)))

  module _ (whole : is_whole s ≡ true) where
    kind_and_lengths : Current (kind_of s) × (length_right s ≡ true) × (length s ≡ kind_length (kind_of s))
    kind_and_lengths =
        by_current (kind_of s)
        (λ e. absurd (true≢false (sym whole ∙ simp e)))
        (λ e k.
        by_length
        (λ l wrong. absurd (true≢false (sym whole ∙ simp (e, l))))
        (λ l right. (k, l, right.1 ∙ right.0)))

    -- What is known of a whole record.
    pub whole_record : Whole s (kind_of s)
    whole_record =
        let known = kind_and_lengths in
        let k = known.0.0 in
        by_kind (kind_of s)
        (λ i nine.
        record {
          of_kind = refl;
          nine_or_ten = record { at_least = omega arith; at_most = omega arith };
          of_ten = λ e. absurd (omega arith);
          of_nine = λ e. by_equal (kind_of s) 3 (λ three. inl three) (λ other. inr (omega (arith, i)));
        })
        (λ i ten.
        record {
          of_kind = refl;
          nine_or_ten = record { at_least = omega arith; at_most = omega arith };
          of_ten = λ e.
              by_equal (kind_of s) 1
              (λ one. inl one)
              (λ other. inr (not_three_or_four (kind_of s) k known.0.1 other i));
          of_nine = λ e. absurd (omega arith);
        })

-- The first refusals, in their order.
module _ (s : List ℕ) where
  pub too_short : length s < 4 → refuse SHORT ≡ judge_of s
  unfolding judge_of
  too_short h = simp (lt-ltb (length s) 4 h)

  module _ (long : 4 ≤ length s) where
    pub wrong_kind : (Inside 1 5 (kind_of s) → ⊥) → refuse KIND ≡ judge_of s
    unfolding judge_of
    wrong_kind h = simp (le-ltb (length s) 4 long, outside_of 1 5 (kind_of s) h)

    module _ (i : Inside 1 5 (kind_of s)) where
      pub retired_kind : kind_of s ≡ 2 → refuse RETIRED ≡ judge_of s
      unfolding judge_of
      retired_kind two = simp (le-ltb (length s) 4 long, inside 1 5 (kind_of s) i, eq-eqb (kind_of s) 2 two)

      module _ (not_two : kind_of s ≡ 2 → ⊥) where
        pub wrong_length : length_right s ≡ false → refuse LENGTH ≡ judge_of s
        unfolding judge_of
        wrong_length l = simp (le-ltb (length s) 4 long, inside 1 5 (kind_of s) i, ne_eqb (kind_of s) 2 not_two, l)

        pub right_record : length_right s ≡ true → judge_kind s ≡ judge_of s
        unfolding judge_of
        right_record l = simp (le-ltb (length s) 4 long, inside 1 5 (kind_of s) i, ne_eqb (kind_of s) 2 not_two, l)

  -- So a whole record is judged by its kind.
  pub whole_judged : is_whole s ≡ true → judge_kind s ≡ judge_of s
  whole_judged whole =
      let known = kind_and_lengths s whole in
      let long = (whole_record s whole).nine_or_ten in
      right_record (omega (arith, long)) known.0.0 known.0.1 known.1
