-- The places listed of two years, one after another.
use Prim.Native.Nat.{ℕ, zero, suc, ◌+◌, ◌-◌, ◌≤◌, ◌<◌}
use mathlib.Core.Path.{◌≡◌, refl, sym, ap, ap₂, subst, ◌∙◌}
use mathlib.Core.Bool.{true, false, cond}
use mathlib.Core.List.{List, [], ◌∷◌, ◌++◌, append-nil, append_assoc}
use native.Mathlib.Numerals.{add-one}
use native.Mathlib.Omega.{arith}
use lib.ListN.{length, set, get_or, replicate, length-append, get_or-append}
use lib.Seq.{set-append_seam, get_or-append_seam}
use Rattle.std.proofs.Common.{Option, Some, None}
use Rattle.calendar.proofs.Cases.{by_bool}
use Rattle.calendar.proofs.Rising.{by_order}
use Rattle.reckoning.specs.Answers.{YearAnswer}
use Rattle.comparison.specs.Answers.{ComparisonAnswer}
use Rattle.comparison.specs.declared.data.Difference.{Difference}
use Rattle.comparison.specs.declared.data.Listed.{Listed}
use Rattle.comparison.specs.Comparisons.{is_listed, difference_at, listed_at, places_up_to, unused, thirteen, listing}
use Rattle.comparison.specs.Months.{difference_told}

-- One place more in the first unused one.
pub thirteen_more : (places : List Listed) (place : Listed) → length places < 13
    → set (thirteen places) (length places) place ≡ thirteen (places ++ place ∷ [])
thirteen_more places place h =
    let left = 12 - length places in
    let one_less : 13 - length (places ++ place ∷ []) ≡ left = omega (arith, length-append places (place ∷ [])) in
    let some_left : 13 - length places ≡ suc left = omega arith in
    ap (λ n. set (places ++ replicate n unused) (length places) place) some_left
    ∙ set-append_seam places unused (replicate left unused) place
    ∙ sym (append_assoc places (place ∷ []) (replicate left unused))
    ∙ ap (λ n. (places ++ place ∷ []) ++ replicate n unused) (sym one_less)

module _ (first second : YearAnswer) where
  -- How many places before place i are listed: where it stands if it is listed too.
  abbrev pub before : ℕ → ℕ
  before i = length (places_up_to first second i)

  pub one_more : (n : ℕ) → is_listed first second n ≡ true
      → places_up_to first second (suc n) ≡ places_up_to first second n ++ listed_at first second n ∷ []
  unfolding places_up_to
  one_more n e = ap (λ b. places_up_to first second n ++ cond b (listed_at first second n ∷ []) []) e

  pub no_more : (n : ℕ) → is_listed first second n ≡ false → places_up_to first second (suc n) ≡ places_up_to first second n
  unfolding places_up_to
  no_more n e =
      ap (λ b. places_up_to first second n ++ cond b (listed_at first second n ∷ []) []) e ∙ append-nil (places_up_to first second n)

  pub before_next : (n : ℕ) → is_listed first second n ≡ true → before (suc n) ≡ before n + 1
  before_next n e = ap length (one_more n e) ∙ length-append (places_up_to first second n) (listed_at first second n ∷ [])

  pub before_most : (n : ℕ) → before n ≤ n
  unfolding places_up_to
  before_most zero = omega arith
  before_most (suc n) =
      by_bool (is_listed first second n)
      (λ e. omega (arith, before_next n e, before_most n))
      (λ e. omega (arith, ap length (no_more n e), before_most n))

  before_rises : (n : ℕ) → before n ≤ before (suc n)
  before_rises n =
      by_bool (is_listed first second n)
      (λ e. omega (arith, before_next n e))
      (λ e. omega (arith, ap length (no_more n e)))

  before_monotone : (m n : ℕ) → before n ≤ before (n + m)
  before_monotone zero n = let e : n + 0 ≡ n = omega arith in omega (arith, ap before e)
  before_monotone (suc m) n =
      let e : suc (n + m) ≡ n + suc m = omega arith in omega (arith, before_monotone m n, before_rises (n + m), ap before e)

  -- Listed later, it stands later.
  pub in_order : (i j : ℕ) → before i < before j → i < j
  in_order i j h =
      by_order i j (λ l. l)
      (λ l. let e : j + (i - j) ≡ i = omega arith in absurd (omega (arith, before_monotone (i - j) j, ap before e)))

  -- What stands at j among the first n.
  pub record StandsAt (n j : ℕ) : Type 0 where
    pub place : ℕ
    pub within : place < n
    pub listed : is_listed first second place ≡ true
    pub stands : before place ≡ j
    pub is : get_or (places_up_to first second n) j unused ≡ listed_at first second place

  stands_later : (n j : ℕ) → j < before n → StandsAt n j → StandsAt (suc n) j
  stands_later n j h s =
      record {
        place = s.place;
        within = omega (arith, s.within);
        listed = s.listed;
        stands = s.stands;
        is =
            by_bool (is_listed first second n)
            (λ e.
            ap (λ l. get_or l j unused) (one_more n e)
            ∙ get_or-append (places_up_to first second n) (listed_at first second n ∷ []) unused j h
            ∙ s.is)
            (λ e. ap (λ l. get_or l j unused) (no_more n e) ∙ s.is);
      }

  stands_last : (n : ℕ) → is_listed first second n ≡ true → StandsAt (suc n) (before n)
  stands_last n e =
      record {
        place = n;
        within = omega arith;
        listed = e;
        stands = refl;
        is =
            ap (λ l. get_or l (before n) unused) (one_more n e)
            ∙ get_or-append_seam (places_up_to first second n) (listed_at first second n) [] unused;
      }

  pub stands_at : (n j : ℕ) → j < before n → StandsAt n j
  unfolding places_up_to
  stands_at zero j h = absurd (omega arith)
  stands_at (suc n) j h =
      by_order j (before n)
      (λ l. stands_later n j l (stands_at n j l))
      (λ l.
      by_bool (is_listed first second n)
      (λ e. let last : before n ≡ j = omega (arith, before_next n e) in subst (StandsAt (suc n)) last (stands_last n e))
      (λ e. absurd (omega (arith, ap length (no_more n e)))))

  -- A listed place stands among them.
  pub stands_within : (n i : ℕ) → i < n → is_listed first second i ≡ true → before i < before n
  stands_within n i h e =
      let next : suc i + (n - suc i) ≡ n = omega arith in
      omega (arith, before_next i e, before_monotone (n - suc i) (suc i), ap before next)

  -- No two stand at one.
  pub stands_alone : (i j : ℕ) → is_listed first second i ≡ true → is_listed first second j ≡ true → before i ≡ before j → i ≡ j
  stands_alone i j p q e =
      by_order i j
      (λ l. absurd (omega (arith, stands_within j i l p)))
      (λ l. by_order j i (λ m. absurd (omega (arith, stands_within i j m q))) (λ m. omega arith))

-- The places that a loop has listed of the first n.
pub record ListedOf (first second : YearAnswer) (n count : ℕ) (places : List Listed) : Type 0 where
  pub count_is : count ≡ before first second n
  pub places_are : places ≡ thirteen (places_up_to first second n)

module _ (first second : YearAnswer) where
  pub listed_none_yet : {none : Listed} → none ≡ unused → ListedOf first second 0 0 (replicate 13 none)
  unfolding places_up_to
  listed_none_yet e = record { count_is = refl; places_are = ap (replicate 13) e }

  module _ {n count : ℕ} {places : List Listed} (so_far : ListedOf first second n count places) where
    module _ {told : Option Difference} (is_told : told ≡ difference_told first second n) where
      pub listed_one_more : {difference : Difference} {place : Listed} → told ≡ Some difference
          → place ≡ record { place = n + 1; difference = difference }
          → n < 13
          → ListedOf first second (n + 1) (count + 1) (set places count place)
      listed_one_more {difference = d} {place = place} some place_is h =
          by_bool (is_listed first second n)
          (λ e.
          let here : difference_told first second n ≡ Some (difference_at first second n) = simp e in
          let is : d ≡ difference_at first second n = cc (is_told, some, here) in
          let entry : place ≡ listed_at first second n = place_is ∙ ap (λ x. record { place = n + 1; difference = x }) is in
          let few = before_most first second n in
          rw (add-one n)
          (record {
            count_is = omega (arith, so_far.count_is, before_next first second n e);
            places_are =
                ap (λ c. set places c place) so_far.count_is
                ∙ ap₂ (λ l x. set l (before first second n) x) so_far.places_are entry
                ∙ thirteen_more (places_up_to first second n) (listed_at first second n) (omega arith)
                ∙ ap thirteen (sym (one_more first second n e));
          }))
          (λ e. let here : difference_told first second n ≡ None = simp e in absurd (cc (is_told, some, here)))

      pub listed_no_more : told ≡ None → ListedOf first second (n + 1) count places
      listed_no_more none =
          by_bool (is_listed first second n)
          (λ e.
          let here : difference_told first second n ≡ Some (difference_at first second n) = simp e in
          absurd (cc (is_told, none, here)))
          (λ e.
          rw (add-one n)
          (record {
            count_is = so_far.count_is ∙ ap length (sym (no_more first second n e));
            places_are = so_far.places_are ∙ ap thirteen (sym (no_more first second n e));
          }))

    pub listed_all : n ≡ 13 → ◌≡◌ {A = ComparisonAnswer} (record { refusal = 0; count = count; places = places }) (listing first second)
    unfolding listing
    listed_all all =
        ap₂ (λ c p. record { refusal = 0; count = c; places = p })
        (so_far.count_is ∙ ap (before first second) all)
        (so_far.places_are ∙ ap (λ m. thirteen (places_up_to first second m)) all)
