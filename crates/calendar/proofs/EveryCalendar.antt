-- What holds in every calendar: its months, years and middle qi.
use Prim.Native.Nat.{ℕ, zero, suc, ◌+◌, ◌*◌, ◌-◌, ◌/◌, ◌%◌, ◌≤◌, ◌<◌}
use mathlib.Core.Path.{◌≡◌, subst, ap}
use native.Mathlib.Decide.{ℕ_discrete}
use native.Mathlib.Omega.{arith}
use Rattle.calendar.specs.ExactlyOne.{ExactlyOne}
use Rattle.calendar.specs.Calendar.{Calendar}
use Rattle.calendar.proofs.Rising.{by_order, rises_by, monotone, rises_strictly, below_back, place_unique}
use Rattle.calendar.proofs.Rising.{even_rise, double_step, DoubleStep}

-- The month that year n begins with, and whether month k is one of that year.
abbrev pub first : Calendar → ℕ → ℕ
first K n = K.month_of_qi (12 * n)

abbrev pub Within : Calendar → ℕ → ℕ → Type 0
Within K n k = (first K n ≤ k) × (k < first K (n + 1))

-- Month k holds a middle qi: the last up to its end is in it.
abbrev pub Held : Calendar → ℕ → Type 0
Held K k = K.month_of_qi (K.qi_of_month k) ≡ k

pub by_held : {P : Type 0} (K : Calendar) (k : ℕ) → (Held K k → P) → ((Held K k → ⊥) → P) → P
by_held {P} K k f g = elim (ℕ_discrete (K.month_of_qi (K.qi_of_month k)) k) [ yes h ↦ f h | no h ↦ g h ]

-- How far month k lies behind the month that holds that qi.
abbrev pub behind : Calendar → ℕ → ℕ
behind K k = k - K.month_of_qi (K.qi_of_month k)

-- Month k is one of year n and holds no middle qi.
abbrev pub Lacking : Calendar → ℕ → ℕ → Type 0
Lacking K n k = Within K n k × (Held K k → ⊥)

module _ (K : Calendar) where
  head_rises : (k : ℕ) → K.head k < K.head (k + 1)
  head_rises k = omega (arith, K.month_least k)

  pub head_monotone : {k l : ℕ} → k ≤ l → K.head k ≤ K.head l
  head_monotone h = monotone K.head head_rises h

  -- Days and months.
  pub month_unique : (k d : ℕ) → K.head k ≤ d → d < K.head (k + 1) → k ≡ K.month_of_day d
  month_unique k d a b = place_unique K.head head_rises k (K.month_of_day d) d a b (K.day_from d) (K.day_before d)

  pub month_from : (k d : ℕ) → K.head k ≤ d → k ≤ K.month_of_day d
  month_from k d h = omega (arith, below_back K.head head_rises k (K.month_of_day d + 1) (omega (arith, K.day_before d)))

  pub month_before : (k d : ℕ) → d < K.head k → K.month_of_day d < k
  month_before k d h = below_back K.head head_rises (K.month_of_day d) k (omega (arith, K.day_from d))

  -- a day's count is at least 29 times its month's
  head_least : (k : ℕ) → 29 * k ≤ K.head k
  head_least zero = omega arith
  head_least (suc k) =
      let e : k + 1 ≡ suc k = omega arith in
      omega (arith, head_least k, K.month_least k, ap K.head e)

  pub month_of_day_most : (d : ℕ) → 29 * K.month_of_day d ≤ d
  month_of_day_most d = omega (arith, head_least (K.month_of_day d), K.day_from d)

  -- Middle qi and months.
  pub qi_unique : (g k : ℕ) → K.month_of_qi g ≤ k → k < K.month_of_qi (g + 1) → g ≡ K.qi_of_month k
  qi_unique g k a b = place_unique K.month_of_qi K.qi_rises g (K.qi_of_month k) k a b (K.qi_from k) (K.before_next_qi k)

  pub qi_of_held : (g k : ℕ) → K.month_of_qi g ≡ k → g ≡ K.qi_of_month k
  qi_of_held g k e = qi_unique g k (omega arith) (omega (arith, K.qi_rises g))

  pub held : (g k : ℕ) → K.month_of_qi g ≡ k → Held K k
  held g k e = subst (λ h. K.month_of_qi h ≡ k) (qi_of_held g k e) e

  -- at most one month goes by between two middle qi
  pub qi_step_most : (g : ℕ) → K.month_of_qi (g + 1) ≤ K.month_of_qi g + 2
  qi_step_most g =
      let e : g + 1 + 11 ≡ g + 12 = omega arith in
      let r : K.month_of_qi (g + 1) + 11 ≤ K.month_of_qi (g + 12) =
      subst (λ x. K.month_of_qi (g + 1) + 11 ≤ K.month_of_qi x) e (rises_by K.month_of_qi K.qi_rises 11 (g + 1))
      in
      omega (arith, K.year_most g)

  pub behind_most : (k : ℕ) → behind K k ≤ 1
  behind_most k = omega (arith, K.before_next_qi k, qi_step_most (K.qi_of_month k))

  -- a month that holds none has the last middle qi of the month before
  pub qi_of_lacking : (k : ℕ) → (Held K (k + 1) → ⊥) → K.qi_of_month (k + 1) ≡ K.qi_of_month k
  qi_of_lacking k lacks =
      qi_unique (K.qi_of_month (k + 1)) k
      (by_order (K.month_of_qi (K.qi_of_month (k + 1))) (k + 1)
      (λ l. omega arith)
      (λ l. absurd (lacks (omega (arith, K.qi_from (k + 1))))))
      (omega (arith, K.before_next_qi (k + 1)))

  -- Years and months.
  next_first : (n : ℕ) → first K (n + 1) ≡ K.month_of_qi (12 * n + 12)
  next_first n = let e : 12 * (n + 1) ≡ 12 * n + 12 = omega arith in ap K.month_of_qi e

  pub count_least : (n : ℕ) → first K n + 12 ≤ first K (n + 1)
  count_least n = omega (arith, next_first n, rises_by K.month_of_qi K.qi_rises 12 (12 * n))

  pub count_most : (n : ℕ) → first K (n + 1) ≤ first K n + 13
  count_most n = omega (arith, next_first n, K.year_most (12 * n))

  pub first_rises : (n : ℕ) → first K n < first K (n + 1)
  first_rises n = omega (arith, count_least n)

  -- middle qi j of year n is in a month of year n
  pub within_of_qi : (n j : ℕ) → j < 12 → Within K n (K.month_of_qi (12 * n + j))
  within_of_qi n j h = (
    monotone K.month_of_qi K.qi_rises (omega arith),
    rises_strictly K.month_of_qi K.qi_rises (omega arith),
  )

  pub in_its_year : (k : ℕ) → Within K (K.qi_of_month k / 12) k
  in_its_year k =
      let g = K.qi_of_month k in
      let a : K.month_of_qi (12 * (g / 12)) ≤ K.month_of_qi g = monotone K.month_of_qi K.qi_rises (omega arith) in
      let b : K.month_of_qi (g + 1) ≤ K.month_of_qi (12 * (g / 12 + 1)) = monotone K.month_of_qi K.qi_rises (omega arith) in
      (omega (arith, K.qi_from k), omega (arith, K.before_next_qi k))

  pub year_unique : (n k : ℕ) → Within K n k → n ≡ K.qi_of_month k / 12
  year_unique n k w =
      place_unique (first K) first_rises n (K.qi_of_month k / 12) k w.0 w.1 (in_its_year k).0 (in_its_year k).1

  -- later years begin later
  pub years_rise : {n m : ℕ} → n ≤ m → K.head (first K n) ≤ K.head (first K m)
  years_rise h = head_monotone (monotone (first K) first_rises h)

  -- the year of a day
  pub year_from : (n d : ℕ) → K.head (first K n) ≤ d → n ≤ K.qi_of_month (K.month_of_day d) / 12
  year_from n d h =
      let k = K.month_of_day d in
      let l : first K n < first K (K.qi_of_month k / 12 + 1) = omega (arith, month_from (first K n) d h, (in_its_year k).1) in
      omega (arith, below_back (first K) first_rises n (K.qi_of_month k / 12 + 1) l)

  pub year_before : (n d : ℕ) → d < K.head (first K n) → K.qi_of_month (K.month_of_day d) / 12 < n
  year_before n d h =
      let k = K.month_of_day d in
      below_back (first K) first_rises (K.qi_of_month k / 12) n (omega (arith, month_before (first K n) d h, (in_its_year k).0))

  -- Number and mark determine the month: it lies `behind` after the month of the middle qi.
  pub month_again : (n k : ℕ) → Within K n k → K.month_of_qi (12 * n + K.qi_of_month k % 12) + behind K k ≡ k
  month_again n k w =
      let e : K.qi_of_month k ≡ 12 * n + K.qi_of_month k % 12 = omega (arith, year_unique n k w) in
      omega (arith, ap K.month_of_qi e, K.qi_from k)

  -- Of twelve months each holds a middle qi.
  pub twelve_hold : (n : ℕ) → first K (n + 1) ≡ first K n + 12 → (k : ℕ) → Within K n k → Held K k
  twelve_hold n e k w =
      held (12 * n + (k - first K n)) k
      (omega (
        arith,
        even_rise K.month_of_qi K.qi_rises 12 (k - first K n) (12 * n) (omega (arith, next_first n)) (omega (arith, w)),
      ))

  -- Of thirteen exactly one holds none: the one passed over where the months of two middle qi differ by two.
  module _ (n : ℕ) (thirteen : first K (n + 1) ≡ first K n + 13) (double : DoubleStep K.month_of_qi (12 * n) 12) where
    passed_over : ℕ
    passed_over = first K n + double.at + 1

    passed_over_lacks : Held K passed_over → ⊥
    unfolding passed_over
    passed_over_lacks h =
        let g = 12 * n + double.at in
        let e : g ≡ K.qi_of_month passed_over = qi_unique g passed_over (omega (arith, double)) (omega (arith, double)) in
        omega (arith, double, ap K.month_of_qi e)

    -- up to it each month holds the middle qi of its place
    before_it : (k : ℕ) → first K n ≤ k → k < passed_over → Held K k
    unfolding passed_over
    before_it k a b =
        let r = even_rise K.month_of_qi K.qi_rises double.at (k - first K n) (12 * n) (omega (arith, double)) (omega arith) in
        held (12 * n + (k - first K n)) k (omega arith)

    -- after it, of the place before
    after_it : (k : ℕ) → passed_over < k → k < first K (n + 1) → Held K k
    unfolding passed_over
    after_it k a b =
        let y = 12 * n + double.at + 1 in
        let e : y + (11 - double.at) ≡ 12 * n + 12 = omega (arith, double) in
        let r =
        even_rise K.month_of_qi K.qi_rises (11 - double.at) (k - passed_over - 1) y
        (omega (arith, double, next_first n, ap K.month_of_qi e))
        (omega (arith, double))
        in
        held (y + (k - passed_over - 1)) k (omega (arith, double))

    one_lacks : ExactlyOne (Lacking K n)
    unfolding passed_over
    one_lacks =
        record {
          it = passed_over;
          has = ((omega arith, omega (arith, double)), passed_over_lacks);
          only = λ k l.
              by_order k passed_over
              (λ b. absurd (l.1 (before_it k l.0.0 b)))
              (λ b. by_order passed_over k (λ a. absurd (l.1 (after_it k a l.0.1))) (λ a. omega arith));
        }

  pub thirteen_one_lacks : (n : ℕ) → first K (n + 1) ≡ first K n + 13 → ExactlyOne (Lacking K n)
  thirteen_one_lacks n e =
      one_lacks n e (double_step K.month_of_qi K.qi_rises 12 (12 * n) (omega (arith, next_first n)))
