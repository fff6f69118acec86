-- The count that a fraction settles to is the largest whose fraction is not above it; and how it is found.
use Prim.Native.Nat.{ℕ, zero, suc, ◌+◌, ◌*◌, ◌-◌, ◌^◌, ◌≤◌, ◌<◌}
use mathlib.Core.Path.{◌≡◌, refl, sym, ap, subst, ◌∙◌}
use mathlib.Core.Bool.{Bool, true, false, cond}
use native.Mathlib.Omega.{arith}
use native.Mathlib.Decide.{dec_lt}
use lib.Dec.{T}
use lib.Ieee.{Float, binary64, fits, le}
use Rattle.day_fraction.specs.Fraction.{fraction_of}
use Rattle.day_fraction.specs.Settling.{is_fraction, largest_below, not_above, count_of, IsLargest, bit}
use Rattle.day_fraction.proofs.Sizes.{fraction_size}
use Rattle.day_fraction.proofs.Rounding.{rounded}
use Rattle.day_fraction.proofs.Cuts.{cut_of, cut_below}
use Rattle.day_fraction.proofs.Counts as counts

by_test : {P : Type 0} (b : Bool) → (T b → P) → ((T b → ⊥) → P) → P
by_test true f g = f tt
by_test false f g = g (λ t. t)

pick : (b : Bool) (x y : ℕ) → T b → x ≡ cond b x y
pick true x y t = refl
pick false x y t = absurd t

pass : (b : Bool) (x y : ℕ) → (T b → ⊥) → y ≡ cond b x y
pass true x y never = absurd (never tt)
pass false x y never = refl

-- k is the last number below n with a property.
abbrev pub LastBelow : ℕ → (ℕ → Bool) → ℕ → Type 0
LastBelow n p k = (k < n) × T (p k) × ((c : ℕ) → k < c → c < n → T (p c) → ⊥)

-- Where there is one, that is it;
last_below : (p : ℕ → Bool) (n k : ℕ) → k < n → T (p k) → LastBelow n p (largest_below n p)
unfolding largest_below
last_below p zero k h t = absurd (omega arith)
last_below p (suc n) k h t =
    by_test (p n)
    (λ q.
    subst (LastBelow (suc n) p) (pick (p n) n (largest_below n p) q)
    (omega arith, q, λ c after inside u. omega arith))
    (λ never.
    let before = last_below p n k (earlier never) t in
    subst (LastBelow (suc n) p) (pass (p n) n (largest_below n p) never)
    (omega (arith, before.0), before.1, λ c after inside u. last never before c after inside u))
  where
    earlier : (T (p n) → ⊥) → k < n
    earlier never = elim (dec_lt k n) [ yes l ↦ l | no l ↦ let is : k ≡ n = omega arith in absurd (never (subst (λ c. T (p c)) is t)) ]

    last : (T (p n) → ⊥) → LastBelow n p (largest_below n p) → (c : ℕ) → largest_below n p < c → c < suc n → T (p c) → ⊥
    last never before c after inside u =
        elim (dec_lt c n) [ yes l ↦ before.2 c after l u | no l ↦ let is : c ≡ n = omega arith in never (subst (λ c. T (p c)) is u) ]

-- and no other is.
pub last_is : (p : ℕ → Bool) (n k : ℕ) → LastBelow n p k → largest_below n p ≡ k
last_is p n k it =
    let that = last_below p n k it.0 it.1 in
    elim (dec_lt (largest_below n p) k) [
      | yes l ↦ absurd (that.2 k l it.0 it.1)
      | no l ↦
          elim (dec_lt k (largest_below n p)) [ yes m ↦ absurd (it.2 (largest_below n p) m that.0 that.1) | no m ↦ omega arith ]
    ]

bit_true : (b : Bool) → T b → bit b ≡ 1
bit_true b t = sym (pick b 1 0 t)

bit_false : (b : Bool) → (T b → ⊥) → bit b ≡ 0
bit_false b never = sym (pass b 1 0 never)

module _ (day : ℕ) (some : 0 < day) (few : day < 2 ^ 16) (f : Float) (float : T (fits binary64 f)) (t : T (is_fraction f)) where
  abbrev p : ℕ → Bool
  p = not_above day f

  abbrev cut : ℕ
  cut = cut_of day f

  inside : cut < day
  inside = cut_below day f some (fraction_size f t).1

  is_rounded : (c : ℕ) → c ≤ 2 * day → fraction_of day c ≡ rounded c day
  is_rounded = counts.is_rounded day some few

  up_to : (c : ℕ) → c ≤ cut → T (p c)
  up_to c h =
      subst (λ x. T (le x f)) (sym (is_rounded c (omega (arith, inside))))
      (counts.lies_not_above day some few f float (fraction_size f t).0 (fraction_size f t).1 c h)

  day_past : (c : ℕ) → day ≤ c → c ≤ 2 * day → T (p c) → ⊥
  day_past c h within q =
      counts.day_above day some few f float (fraction_size f t).0 (fraction_size f t).1 c h within
      (subst (λ x. T (le x f)) (is_rounded c within) q)

  past : (c : ℕ) → cut + 1 < c → c ≤ 2 * day → T (p c) → ⊥
  past c h within q =
      elim (dec_lt c day) [
        | yes l ↦
            let before : c - 1 + 1 ≡ c = omega arith in
            counts.above day some few f float (fraction_size f t).0 (fraction_size f t).1 (c - 1) (omega arith) (omega arith)
            (subst (λ x. T (le x f)) (is_rounded c within ∙ ap (λ k. rounded k day) (sym before)) q)
        | no l ↦ day_past c (omega arith) within q
      ]

  next_inside : T (p (cut + 1)) → cut + 1 < day
  next_inside q =
      elim (dec_lt (cut + 1) day) [
        | yes l ↦ l
        | no l ↦ absurd (day_past (cut + 1) (omega arith) (omega (arith, inside)) q)
      ]

  -- It is that count or the next.
  pub largest : count_of day f ≡ cut + bit (p (cut + 1))
  largest =
      by_test (p (cut + 1))
      (λ q.
      last_is p day (cut + 1) (next_inside q, q, λ c after inside. past c after (omega arith))
      ∙ ap (λ n. cut + n) (sym (bit_true (p (cut + 1)) q)))
      (λ never.
      last_is p day cut (inside, up_to cut (omega arith), λ c after inside. after_cut never c after inside)
      ∙ cut_alone (bit (p (cut + 1))) (bit_false (p (cut + 1)) never))
    where
      cut_alone : (n : ℕ) → n ≡ 0 → cut ≡ cut + n
      cut_alone n z = omega arith

      after_cut : (T (p (cut + 1)) → ⊥) → (c : ℕ) → cut < c → c < day → T (p c) → ⊥
      after_cut never c after inside q =
          elim (dec_lt (cut + 1) c) [
            | yes l ↦ past c l (omega arith) q
            | no l ↦ let is : c ≡ cut + 1 = omega arith in never (subst (λ k. T (p k)) is q)
          ]

  -- Found from that count or the next.
  pub found : (guess : ℕ) → cut ≤ guess → guess ≤ cut + 1
      → guess + bit (p guess) + bit (p (guess + 1)) ≡ count_of day f + 1
  found guess least most =
      elim (dec_lt cut guess) [
        | yes l ↦
            let is : guess ≡ cut + 1 = omega arith in
            let none = bit_false (p (guess + 1)) (past (guess + 1) (omega arith) (omega (arith, inside))) in
            omega (arith, largest, ap (λ k. bit (p k)) is)
        | no l ↦
            let is : guess ≡ cut = omega arith in
            let one = bit_true (p guess) (up_to guess (omega arith)) in
            omega (arith, largest, ap (λ k. bit (p (k + 1))) is)
      ]

  pub count_below : count_of day f < day
  count_below = (last_below p day cut inside (up_to cut (omega arith))).0

  pub count_is_largest : IsLargest day f (count_of day f)
  count_is_largest =
      let last = last_below p day cut inside (up_to cut (omega arith)) in
      record { below = last.0; lies_not_above = last.1; none_larger = last.2 }
