-- Functions on numbers that rise at each step.
use Prim.Native.Nat.{ℕ, zero, suc, ◌+◌, ◌-◌, ◌≤◌, ◌<◌}
use mathlib.Core.Path.{◌≡◌, subst, sym}
use native.Mathlib.Omega.{arith}
use native.Mathlib.Decide.{dec_lt}

-- numbers that are not the same way round
pub by_order : {P : Type 0} (x y : ℕ) → (x < y → P) → (y ≤ x → P) → P
by_order {P} x y below above = elim (dec_lt x y) [ yes h ↦ below h | no h ↦ above (omega arith) ]

-- Among m steps from x on, the one where f rises by two, having risen by one before.
pub record DoubleStep (f : ℕ → ℕ) (x m : ℕ) : Type 0 where
  pub at : ℕ
  pub within : at < m
  pub before : f (x + at) ≡ f x + at
  pub after : f (x + at + 1) ≡ f x + at + 2

module _ (f : ℕ → ℕ) (rises : (x : ℕ) → f x < f (x + 1)) where
  -- by at least n in n steps
  pub rises_by : (n x : ℕ) → f x + n ≤ f (x + n)
  rises_by zero x = let e : x + 0 ≡ x = omega arith in subst (λ y. f x + 0 ≤ f y) (sym e) (omega arith)
  rises_by (suc n) x =
      let e : x + n + 1 ≡ x + suc n = omega arith in
      subst (λ y. f x + suc n ≤ f y) e (omega (arith, rises_by n x, rises (x + n)))

  pub monotone : {x y : ℕ} → x ≤ y → f x ≤ f y
  monotone {x} {y} h =
      let e : x + (y - x) ≡ y = omega arith in
      subst (λ z. f x ≤ f z) e (omega (arith, rises_by (y - x) x))

  pub rises_strictly : {x y : ℕ} → x < y → f x < f y
  rises_strictly {x} {y} h =
      let l : f (x + 1) ≤ f y = monotone (omega arith) in
      omega (arith, rises x)

  -- the order of the values is that of the arguments
  pub below_back : (x y : ℕ) → f x < f y → x < y
  below_back x y h = by_order x y (λ l. l) (λ l. let m : f y ≤ f x = monotone l in omega arith)

  -- a number lies between one value and the next at one place only
  pub place_unique : (x y z : ℕ) → f x ≤ z → z < f (x + 1) → f y ≤ z → z < f (y + 1) → x ≡ y
  place_unique x y z a b p q =
      let l : x < y + 1 = below_back x (y + 1) (omega arith) in
      let m : y < x + 1 = below_back y (x + 1) (omega arith) in
      omega arith

  -- where the whole rise over m steps is m, each step of it is one
  pub even_rise : (m i x : ℕ) → f (x + m) ≤ f x + m → i ≤ m → f (x + i) ≡ f x + i
  even_rise m i x h l =
      let e : x + i + (m - i) ≡ x + m = omega arith in
      let r : f (x + i) + (m - i) ≤ f (x + m) = subst (λ z. f (x + i) + (m - i) ≤ f z) e (rises_by (m - i) (x + i)) in
      omega (arith, rises_by i x)

  -- where it is m + 1, one step of it is two
  pub double_step : (m x : ℕ) → f (x + m) ≡ f x + m + 1 → DoubleStep f x m
  double_step zero x h =
      let e : x + 0 ≡ x = omega arith in
      let z : f x ≡ f x + 0 + 1 = subst (λ y. f y ≡ f x + 0 + 1) e h in
      record { at = 0; within = omega arith; before = omega arith; after = omega arith }
  double_step (suc m) x h =
      let e : x + suc m ≡ x + m + 1 = omega arith in
      let t : f (x + m + 1) ≡ f x + suc m + 1 = subst (λ y. f y ≡ f x + suc m + 1) e h in
      by_order (f (x + m)) (f x + m + 1)
      (λ l. record { at = m; within = omega arith; before = omega (arith, rises_by m x); after = omega arith })
      (λ l.
      let d : DoubleStep f x m = double_step m x (omega (arith, rises (x + m))) in
      record { at = d.at; within = omega (arith, d); before = d.before; after = d.after })
