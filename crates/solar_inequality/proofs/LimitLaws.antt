-- The amount by a limit, over any that meets the list.
use Prim.Native.Nat.{ℕ, ◌+◌, ◌*◌, ◌-◌, ◌/◌, ◌≤◌, ◌<◌}
use mathlib.Core.Path.{◌≡◌, ap, subst, ◌∙◌}
use native.Mathlib.Nat.{mul-le-mul, le-div_iff_mul-le, div-lt_iff_lt-mul, div-mul-le_self}
use native.Mathlib.Omega.{arith}
use mir.Syntax.{w16}
use mir.Val.{Fits}
use Rattle.calendar.proofs.Division.{cut_down, cut_down_is}
use Rattle.solar_inequality.specs.declared.limits.Limit.{Limit}
use Rattle.solar_inequality.specs.Limits.{in_day}
use Rattle.solar_inequality.specs.LimitHolds.{LimitHolds}
use Rattle.solar_inequality.specs.Outcome.{AmountSays}
use Rattle.solar_inequality.specs.Answers.{amount_by}

-- x (2L less x).
abbrev product : ℕ → ℕ → ℕ
product l x = x * (2 * l - x)

-- With L so much above x, the difference is no difference any more.
product_is : (x above : ℕ) → product (x + above) x ≡ x * (x + 2 * above)
product_is x above = let e : 2 * (x + above) - x ≡ x + 2 * above = omega arith in ap (λ z. x * z) e

-- It is most at L itself,
product_most : (l x : ℕ) → x ≤ l → product l x ≤ l * l
product_most l x h =
    let above = l - x in
    let is : x + above ≡ l = omega arith in
    subst (λ z. product z x ≤ z * z) is (below x above)
  where
    below : (x above : ℕ) → product (x + above) x ≤ (x + above) * (x + above)
    below x above = omega (arith, product_is x above)

-- and rises up to there, by the square of the difference at least.
product_rises : (l x more : ℕ) → x + more ≤ l → product l x + more * more ≤ product l (x + more)
product_rises l x more within =
    let above = l - (x + more) in
    let all : x + more + above ≡ l = omega arith in
    subst (λ z. product z x + more * more ≤ product z (x + more)) all (rises x more above)
  where
    rises : (x more above : ℕ)
        → product (x + more + above) x + more * more ≤ product (x + more + above) (x + more)
    rises x more above =
        let grouped : x + more + above ≡ x + (more + above) = omega arith in
        let first : product (x + more + above) x ≡ x * (x + 2 * (more + above)) =
        ap (λ z. product z x) grouped ∙ product_is x (more + above)
        in
        omega (arith, product_is (x + more) above)

module _ (l : Limit) (ok : LimitHolds l) where
  abbrev denominator : ℕ
  denominator = in_day * in_day * l.divisor

  denominator_some : 0 < denominator
  denominator_some = omega (arith, ok.divisor_some)

  -- x up to L.
  module _ (x : ℕ) (within : x ≤ l.parts) where
    -- What is computed is what the rule says,
    pub amount_says : AmountSays l x (amount_by l x)
    amount_says =
        record { difference = 2 * l.parts - x; is = omega arith; cut = cut_down (10_000 * product l.parts x) denominator denominator_some }

    -- and nothing else is.
    pub amount_alone : (amount : ℕ) → AmountSays l x amount → amount ≡ amount_by l x
    amount_alone amount says =
        let same : says.difference ≡ 2 * l.parts - x = omega (arith, says.is) in
        cut_down_is (10_000 * (x * says.difference)) denominator denominator_some amount says.cut
        ∙ ap (λ z. 10_000 * (x * z) / denominator) same

    pub most : amount_by l x ≤ 24_000
    most =
        let below : amount_by l x < 24_001 =
        (div-lt_iff_lt-mul denominator_some).1 (omega (arith, product_most l.parts x within, ok.amount_most))
        in
        omega arith

    pub some : 7480 ≤ x → 1 ≤ amount_by l x
    some least =
        let rest : l.parts ≤ 2 * l.parts - x = omega arith in
        (le-div_iff_mul-le denominator_some).1 (omega (arith, mul-le-mul least rest, ok.amount_least))

    -- It fits the code.
    pub amount_fits : Fits w16 (amount_by l x)
    amount_fits = omega (arith, most)

  -- Up to L the amount rises from day to day.
  pub rises : (x y : ℕ) → x + in_day ≤ y → y ≤ l.parts → amount_by l x < amount_by l y
  rises x y h within =
      let more = y - x in
      let is : x + more ≡ y = omega arith in
      let long : in_day ≤ more = omega arith in
      let next : amount_by l x + 1 ≤ amount_by l y =
      (le-div_iff_mul-le denominator_some).1
      (omega (
        arith,
        div-mul-le_self (10_000 * product l.parts x) denominator,
        product_rises l.parts x more (omega arith),
        ap (product l.parts) is,
        mul-le-mul long long,
        ok.divisor_small,
      ))
      in
      omega arith
