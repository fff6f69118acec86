-- The common year of a day, and whether the day is in scope: one law for years from head to head and from solstice to
-- solstice.
use Prim.Native.Nat.{ℕ, ◌+◌, ◌≤◌, ◌<◌}
use mathlib.Core.Path.{◌≡◌, sym, ◌∙◌}
use mathlib.Core.Bool.{true, false, true≢false}
use native.Mathlib.Omega.{arith}
use borrow.Author.Tests.{ltb-true, ltb-false, lt-ltb, le-ltb, lt-leb, le-leb}
use Rattle.calendar.specs.declared.data.Constants.{Constants}
use Rattle.calendar.specs.Systems.{years_elapsed, IsRegisterDay, count_day, before_epoch}
use Rattle.calendar.proofs.Rising.{by_order}
use Rattle.reckoning.specs.CommonYears.{out_of_scope}
use Rattle.reckoning.specs.ComputedRefusals.{outside_years}

-- A year in scope.
pub record InTime (c : Constants) (n : ℕ) : Type 0 where
  pub from : c.elapsed < n + c.common
  pub to : n + c.common ≤ c.elapsed + 3000

pub by_time : {P : Type 0} (c : Constants) (n : ℕ)
    → (n + c.common ≤ c.elapsed → out_of_scope c n ≡ true → P)
    → (c.elapsed + 3000 < n + c.common → out_of_scope c n ≡ true → P)
    → (InTime c n → out_of_scope c n ≡ false → P)
    → P
by_time c n early late in_time =
    let year = n + c.common in
    by_order c.elapsed year
    (λ a.
    by_order (c.elapsed + 3000) year
    (λ b. late b (simp (lt-leb year c.elapsed a, lt-ltb (c.elapsed + 3000) year b)))
    (λ b. in_time (record { from = a; to = b }) (simp (lt-leb year c.elapsed a, le-ltb (c.elapsed + 3000) year b))))
    (λ a. early a (simp (le-leb year c.elapsed a)))

pub in_time : (c : Constants) (n : ℕ) → out_of_scope c n ≡ false → InTime c n
in_time c n e =
    by_time c n (λ a f. absurd (true≢false (sym f ∙ e))) (λ a f. absurd (true≢false (sym f ∙ e))) (λ t f. t)

-- A day lies in years 1 to 3000, a year m beginning on count day `begins m`.
abbrev pub WithinYears : (ℕ → ℕ) → Constants → ℕ → Type 0
WithinYears begins c d = (begins (years_elapsed c 1) ≤ d) × (d < begins (years_elapsed c 3001))

-- A register day has such a count day, or none.
pub by_years : {P : Type 0} (begins : ℕ → ℕ) (c : Constants) (r : ℕ)
    → (outside_years begins c r ≡ true → ((d : ℕ) → IsRegisterDay c r d → WithinYears begins c d → ⊥) → P)
    → (outside_years begins c r ≡ false → IsRegisterDay c r (count_day c r) → WithinYears begins c (count_day c r) → P)
    → P
by_years begins c r out into =
    let x = r + c.anchor in
    let first = begins (years_elapsed c 1) + c.epoch in
    let past = begins (years_elapsed c 3001) + c.epoch in
    by_order x first
    (λ l. out (simp (lt-ltb x first l)) (λ d is w. omega (arith, is, w)))
    (λ l.
    by_order x past
    (λ k. into (simp (le-ltb x first l, lt-leb past x k)) (omega arith) (omega arith, omega arith))
    (λ k. out (simp (le-ltb x first l, le-leb past x k)) (λ d is w. omega (arith, is, w))))

-- A day before the epoch is in no year.
pub before_years : (begins : ℕ → ℕ) (c : Constants) (r : ℕ) → before_epoch c r ≡ true
    → outside_years begins c r ≡ true
before_years begins c r early =
    simp (lt-ltb (r + c.anchor) (begins (years_elapsed c 1) + c.epoch) (omega (arith, ltb-true (r + c.anchor) c.epoch early)))

pub is_its_day : (c : Constants) (r : ℕ) {d : ℕ} → before_epoch c r ≡ false → d ≡ count_day c r → IsRegisterDay c r d
is_its_day c r from e = omega (arith, ltb-false (r + c.anchor) c.epoch from)

-- Count day d, of register day r, is in year n, where a year m begins on count day `begins m`.
module _ (c : Constants) (epoch : c.common ≤ c.elapsed) (begins : ℕ → ℕ) (r d n : ℕ) (is : IsRegisterDay c r d)
    (year_from : (m : ℕ) → begins m ≤ d → m ≤ n)
    (year_before : (m : ℕ) → d < begins m → n < m)
  where
    begun : (m : ℕ) → m ≤ n → begins m + c.epoch ≤ r + c.anchor
    begun m h = by_order d (begins m) (λ b. absurd (omega (arith, year_before m b))) (λ b. omega (arith, is))

    to_begin : (m : ℕ) → n < m → r + c.anchor < begins m + c.epoch
    to_begin m h = by_order d (begins m) (λ b. omega (arith, is)) (λ b. absurd (omega (arith, year_from m b)))

    pub day_outside : out_of_scope c n ≡ true → outside_years begins c r ≡ true
    day_outside out =
        by_time c n
        (λ a f. simp (lt-ltb (r + c.anchor) (begins (years_elapsed c 1) + c.epoch) (to_begin (years_elapsed c 1) (omega arith))))
        (λ a f.
        simp (
          le-ltb (r + c.anchor) (begins (years_elapsed c 1) + c.epoch) (begun (years_elapsed c 1) (omega arith)),
          le-leb (begins (years_elapsed c 3001) + c.epoch) (r + c.anchor) (begun (years_elapsed c 3001) (omega arith)),
        ))
        (λ t f. absurd (true≢false (sym out ∙ f)))

    pub day_inside : out_of_scope c n ≡ false → outside_years begins c r ≡ false
    day_inside inside =
        let t = in_time c n inside in
        simp (
          le-ltb (r + c.anchor) (begins (years_elapsed c 1) + c.epoch) (begun (years_elapsed c 1) (omega (arith, t))),
          lt-leb (begins (years_elapsed c 3001) + c.epoch) (r + c.anchor) (to_begin (years_elapsed c 3001) (omega (arith, t))),
        )
