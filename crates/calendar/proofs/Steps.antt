-- Equal steps of a year, over any number of them and any units of a part.
use Prim.Native.Nat.{ℕ, ◌+◌, ◌*◌, ◌-◌, ◌/◌, ◌%◌, ◌≤◌, ◌<◌}
use mathlib.Core.Path.{◌≡◌, refl, ap, sym, ◌∙◌}
use mathlib.Core.Logic.{◌↔◌}
use native.Mathlib.Nat.{div-add-mod', mod-lt, le-div_iff_mul-le, mul-pos, mul-le-mul_left, mul-le-mul_right, le_of_mul-le-mul_left, le_of_mul-le-mul_right, mul-div_cancel, div-div-eq-div-mul}
use native.Mathlib.Omega.{arith}
use Rattle.calendar.specs.declared.data.Constants.{Constants}
use Rattle.calendar.specs.Steps.{solstice, solstice_day, solstice_remainder, step, DividesYear, moment, day_of, parts_of, units_of}
use Rattle.calendar.specs.ClosedForms.{day_of_step, step_before}
use Rattle.calendar.proofs.Division.{shared_factor, cancel_factor, scaled_least, last_of_below, below_of_last, from_of_after}

module _ (c : Constants) (s u : ℕ) (whole : DividesYear c s u) where
  -- s steps make a year
  pub steps_make_a_year : s * step c s u ≡ c.year * u
  steps_make_a_year = omega (arith, div-add-mod' (c.year * u) s)

  -- no step loses anything: s times moment i is s n + i years
  pub exact : (n i : ℕ) → s * moment c s u n i ≡ (s * n + i) * (c.year * u)
  exact n i = spread (step c s u) steps_make_a_year
    where
      spread : (t : ℕ) → s * t ≡ c.year * u → s * (n * c.year * u + i * t) ≡ (s * n + i) * (c.year * u)
      spread t e = omega (arith, ap (λ x. i * x) e)

  -- s steps after a solstice it is the next solstice, to the last unit
  pub steps_close : (n : ℕ) → moment c s u n s ≡ moment c s u (n + 1) 0
  steps_close n = omega (arith, steps_make_a_year)

  module _ (s_some : 0 < s) (u_some : 0 < u) where
    -- the day of moment i: it falls s n + i steps after the epoch
    pub step_day : (n i : ℕ) → day_of c u (moment c s u n i) ≡ day_of_step c s (s * n + i)
    step_day n i =
        let m = moment c s u n i in
        let all = exact n i in
        div-div-eq-div-mul m u c.solar
        ∙ sym (shared_factor s m (u * c.solar) {n = s * m} s_some refl refl)
        ∙ shared_factor u ((s * n + i) * c.year) (s * c.solar) u_some (omega arith) (omega arith)

    -- moments are in the order of their counts
    module _ (n i m j : ℕ) where
      pub moments_rise : s * n + i ≤ s * m + j → moment c s u n i ≤ moment c s u m j
      moments_rise h =
          le_of_mul-le-mul_left {k = s} (omega (arith, exact n i, exact m j, mul-le-mul_right (c.year * u) h)) s_some

      pub counts_rise : 0 < c.year → moment c s u n i ≤ moment c s u m j → s * n + i ≤ s * m + j
      counts_rise y-some h =
          le_of_mul-le-mul_right {k = c.year * u} (omega (arith, exact n i, exact m j, mul-le-mul_left s h)) (mul-pos y-some u_some)

-- Every k-th of k s steps is one of s steps, to the last unit: as many of v to a part as of u to a part.
pub coarser_on_finer : (c : Constants) (k s u v : ℕ) → 0 < k * s → DividesYear c s u → DividesYear c (k * s) v → (n i : ℕ)
    → u * moment c (k * s) v n (k * i) ≡ v * moment c s u n i
coarser_on_finer c k s u v some coarse fine n i =
    cancel_factor (k * s) (u * moment c (k * s) v n (k * i)) (v * moment c s u n i) some
    (grown (moment c (k * s) v n (k * i)) (moment c s u n i) (exact c (k * s) v fine n (k * i)) (exact c s u coarse n i))
  where
    grown : (x y : ℕ) → k * s * x ≡ (k * s * n + k * i) * (c.year * v) → s * y ≡ (s * n + i) * (c.year * u)
        → k * s * (u * x) ≡ k * s * (v * y)
    grown x y p q = omega (arith, ap (λ a. u * a) p, ap (λ a. k * v * a) q)

-- Moments that are one are told alike: the same day and parts, and units that are the same fraction of a part.
pub record ToldAlike (c : Constants) (u v m w : ℕ) : Type 0 where
  pub day : day_of c v m ≡ day_of c u w
  pub parts : parts_of c v m ≡ parts_of c u w
  pub units : u * units_of v m ≡ v * units_of u w

pub told_alike : (c : Constants) (u v m w : ℕ) → 0 < u → 0 < v → u * m ≡ v * w → ToldAlike c u v m w
told_alike c u v m w u_some v-some e =
    let whole : m / v ≡ w / u =
    sym (shared_factor u m v {n = u * m} {d = u * v} u_some refl refl)
    ∙ shared_factor v w u v-some e (omega arith)
    in
    record {
      day = ap (λ t. t / c.solar) whole;
      parts = ap (λ t. t % c.solar) whole;
      units = omega (
        arith,
        ap (λ t. u * t) (div-add-mod' m v),
        ap (λ t. v * t) (div-add-mod' w u),
        ap (λ t. u * (v * t)) whole,
      );
    }

-- A moment is what it is told as.
pub record Told (c : Constants) (u m : ℕ) : Type 0 where
  pub whole : m ≡ (day_of c u m * c.solar + parts_of c u m) * u + units_of u m
  pub parts_below : parts_of c u m < c.solar
  pub units_below : units_of u m < u

pub told : (c : Constants) (u m : ℕ) → 0 < c.solar → 0 < u → Told c u m
told c u m solar_some u_some =
    record {
      whole = omega (arith, div-add-mod' m u, ap (λ x. x * u) (div-add-mod' (m / u) c.solar));
      parts_below = mod-lt (m / u) solar_some;
      units_below = mod-lt m u_some;
    }

-- Step 0 of a year is its solstice: told with its day and remainder, and no units.
pub step_zero : (c : Constants) (s u n : ℕ) → 0 < u
    → (day_of c u (moment c s u n 0) ≡ solstice_day c n)
    × (parts_of c u (moment c s u n 0) ≡ solstice_remainder c n)
    × (units_of u (moment c s u n 0) ≡ 0)
step_zero c s u n some =
    let m = moment c s u n 0 in
    let here : m ≡ solstice c n * u = omega arith in
    let whole : m / u ≡ solstice c n = ap (λ x. x / u) here ∙ mul-div_cancel (solstice c n) some in (
      ap (λ t. t / c.solar) whole,
      ap (λ t. t % c.solar) whole,
      omega (arith, div-add-mod' m u, ap (λ t. t * u) whole),
    )

-- Its day by the closed form.
pub first_step_day : (c : Constants) (s n : ℕ) → 0 < s → solstice_day c n ≡ day_of_step c s (s * n)
first_step_day c s n some = sym (shared_factor s (solstice c n) c.solar some (omega arith) refl)

-- The days of steps, counted on from the epoch.
module _ (c : Constants) (s : ℕ) (s_some : 0 < s) (solar_some : 0 < c.solar) where
  divisor_some : 0 < s * c.solar
  divisor_some = mul-pos s_some solar_some

  days_rise : (h i : ℕ) → day_of_step c s h ≤ day_of_step c s (h + i)
  days_rise h i = omega (arith, scaled_least c.year (s * c.solar) divisor_some i 0 h (omega arith))

  -- those of a year lie from its solstice to the next
  pub steps_in_year : (u : ℕ) → 0 < u → DividesYear c s u → (n i : ℕ) → i ≤ s
      → (solstice_day c n ≤ day_of c u (moment c s u n i)) × (day_of c u (moment c s u n i) ≤ solstice_day c (n + 1))
  steps_in_year u u_some whole n i h =
      let e : s * n + i + (s - i) ≡ s * (n + 1) = omega arith in
      let here = step_day c s u whole s_some u_some n i in (
        omega (arith, first_step_day c s n s_some, days_rise (s * n) i),
        omega (arith, first_step_day c s (n + 1) s_some, days_rise (s * n + i) (s - i), ap (day_of_step c s) e),
      )

  -- The last on a day before d: those up to it are on such a day, and no later one is.
  module _ (year_some : 0 < c.year) (d : ℕ) where
    -- it is the last h with h Y < s D d
    pub step_in_parts : 0 < d → (h : ℕ) → (h ≤ step_before c s d) ↔ (h * c.year < s * c.solar * d)
    step_in_parts some h =
        let all = mul-pos divisor_some some in (
          λ l. omega (arith, (le-div_iff_mul-le year_some).0 l),
          λ l. (le-div_iff_mul-le year_some).1 (omega arith),
        )

    pub step_is_last : (h : ℕ) → day_of_step c s h < d → h ≤ step_before c s d
    step_is_last h = last_of_below c.year (s * c.solar) divisor_some year_some h d

    pub step_is_before : 0 < d → (h : ℕ) → h ≤ step_before c s d → day_of_step c s h < d
    step_is_before some h = below_of_last c.year (s * c.solar) divisor_some year_some h d some

    pub step_after_it : d ≤ day_of_step c s (step_before c s d + 1)
    step_after_it =
        from_of_after c.year (s * c.solar) divisor_some year_some (step_before c s d + 1) d (omega arith)
