-- The pentads, as equal steps; which of them is in force on a day.
use Prim.Native.Nat.{ℕ, ◌+◌, ◌*◌, ◌/◌, ◌%◌, ◌≤◌, ◌<◌}
use mathlib.Core.Path.{◌≡◌, refl, ap, subst, sym}
use mathlib.Core.Logic.{◌↔◌}
use native.Mathlib.Omega.{arith}
use Rattle.calendar.specs.declared.data.Constants.{Constants}
use Rattle.calendar.specs.Systems.{guantian, jiyuan, jingchu}
use Rattle.calendar.specs.Steps.{solstice_day, solstice_remainder, step, day_of, parts_of, units_of}
use Rattle.calendar.specs.Qi.{qi}
use Rattle.calendar.specs.Pentad.{pentad, pentad_day, InForce, InSolarYear}
use Rattle.calendar.specs.Consistent.{Consistent}
use Rattle.calendar.specs.ClosedForms.{day_of_step, pentad_on}
use Rattle.calendar.proofs.Rising.{by_order}
use Rattle.calendar.proofs.Reckoned.{year_some}
use Rattle.calendar.proofs.Steps.{exact, steps_close, step_day, step_zero, coarser_on_finer, ToldAlike, told_alike, moments_rise, counts_rise}
use Rattle.calendar.proofs.Steps.{first_step_day, step_in_parts, step_is_last, step_is_before, step_after_it}

-- The step of 002: 5 days, 876 parts and 4 thirty-sixths.
pub guantian_pentad_step : step guantian 72 guantian.denominator ≡ (5 * 12_030 + 876) * 36 + 4
guantian_pentad_step = refl

-- The step of 003: 5 days, 530 parts and 55 sixtieths.
pub jiyuan_pentad_step : step jiyuan 72 jiyuan.denominator ≡ (5 * 7290 + 530) * 60 + 55
jiyuan_pentad_step = refl

-- The step of paper 02, Q-6: 5 days, 134 parts and 11 thirty-sixths.
pub jingchu_pentad_step : step jingchu 72 jingchu.denominator ≡ (5 * 1843 + 134) * 36 + 11
jingchu_pentad_step = refl

module _ (c : Constants) (ok : Consistent c) where
  -- Every third pentad is a qi, to the last unit.
  pub every_third_is_a_qi : (n i : ℕ) → c.units * pentad c n (3 * i) ≡ c.denominator * qi c n i
  every_third_is_a_qi n i =
      coarser_on_finer c 3 24 c.units c.denominator (omega arith) ok.qi_exact ok.pentads_exact n i

  pub every_third_told_alike : (n i : ℕ) → ToldAlike c c.units c.denominator (pentad c n (3 * i)) (qi c n i)
  every_third_told_alike n i =
      told_alike c c.units c.denominator (pentad c n (3 * i)) (qi c n i) ok.units_some ok.denominator_some (every_third_is_a_qi n i)

  -- Pentad p falls p seventy-seconds of Y after the solstice: 72 times its moment is 72 n + p years.
  pub pentad_exact : (n p : ℕ) → 72 * pentad c n p ≡ (72 * n + p) * (c.year * c.denominator)
  pentad_exact = exact c 72 c.denominator ok.pentads_exact

  -- Pentad 72 of a year is pentad 0 of the next,
  pub pentads_close : (n : ℕ) → pentad c n 72 ≡ pentad c (n + 1) 0
  pentads_close n = steps_close c 72 c.denominator ok.pentads_exact n

  -- on whose day it falls,
  pub turn_of_the_year : (n : ℕ) → pentad_day c n 72 ≡ pentad_day c (n + 1) 0
  turn_of_the_year n = ap (day_of c c.denominator) (pentads_close n)

  -- and which is the winter solstice.
  pub pentad_zero : (n : ℕ)
      → (pentad_day c n 0 ≡ solstice_day c n)
      × (parts_of c c.denominator (pentad c n 0) ≡ solstice_remainder c n)
      × (units_of c.denominator (pentad c n 0) ≡ 0)
  pentad_zero n = step_zero c 72 c.denominator n ok.denominator_some

  -- The day of a pentad, counted on from the epoch.
  pub pentad_day_lem : (n p : ℕ) → pentad_day c n p ≡ day_of_step c 72 (72 * n + p)
  pentad_day_lem n p = step_day c 72 c.denominator ok.pentads_exact (omega arith) ok.denominator_some n p

  -- On a day its pentad and no other is in force: the closed form.
  module _ (d : ℕ) where
    -- it is the last h with h Y < 72 D (d + 1)
    pub last_in_parts : (h : ℕ) → (h ≤ pentad_on c d) ↔ (h * c.year < 72 * c.solar * (d + 1))
    last_in_parts = step_in_parts c 72 (omega arith) ok.solar_some (year_some c ok) (d + 1) (omega arith)

    comes_up_to_it : (h : ℕ) → h ≤ pentad_on c d → day_of_step c 72 h < d + 1
    comes_up_to_it h = step_is_before c 72 (omega arith) ok.solar_some (year_some c ok) (d + 1) (omega arith) h

    up_to_it : (n p : ℕ) → pentad_day c n p ≤ d → 72 * n + p ≤ pentad_on c d
    up_to_it n p h =
        step_is_last c 72 (omega arith) ok.solar_some (year_some c ok) (d + 1) (72 * n + p) (omega (arith, pentad_day_lem n p))

    pub in_force : InForce c d (pentad_on c d / 72) (pentad_on c d % 72)
    in_force =
        let h = pentad_on c d in
        record {
          is_pentad = omega arith;
          has_come = omega (arith, pentad_day_lem (h / 72) (h % 72), comes_up_to_it (72 * (h / 72) + h % 72) (omega arith));
          is_last = λ m q is_pentad has_come.
              moments_rise c 72 c.denominator ok.pentads_exact (omega arith) ok.denominator_some m q (h / 72) (h % 72)
              (omega (arith, up_to_it m q has_come));
        }

    pub only_in_force : (n p : ℕ) → InForce c d n p → (n ≡ pentad_on c d / 72) × (p ≡ pentad_on c d % 72)
    only_in_force n p f =
        let h = pentad_on c d in
        let no_later : 72 * n + p ≤ h = up_to_it n p f.has_come in
        let no_earlier : 72 * (h / 72) + h % 72 ≤ 72 * n + p =
        counts_rise c 72 c.denominator ok.pentads_exact (omega arith) ok.denominator_some (h / 72) (h % 72) n p (year_some c ok)
        (f.is_last (h / 72) (h % 72) (omega arith) in_force.has_come)
        in
        (omega (arith, f.is_pentad), omega (arith, f.is_pentad))

    -- In force is the pentad that has come where the next has not, over the turn of the year too.
    pub next_is_later : (n p : ℕ) → InForce c d n p → d < pentad_day c n (p + 1)
    next_is_later n p f =
        let only = only_in_force n p f in
        let e : 72 * n + (p + 1) ≡ pentad_on c d + 1 = omega arith in
        omega (
          arith,
          pentad_day_lem n (p + 1),
          ap (day_of_step c 72) e,
          step_after_it c 72 (omega arith) ok.solar_some (year_some c ok) (d + 1),
        )

    pub in_force_of_next : (n p : ℕ) → p < 72 → pentad_day c n p ≤ d → d < pentad_day c n (p + 1) → InForce c d n p
    in_force_of_next n p is_pentad has_come next =
        let most : pentad_on c d < 72 * n + (p + 1) =
        by_order (pentad_on c d) (72 * n + (p + 1))
        (λ l. l)
        (λ l. absurd (omega (arith, pentad_day_lem n (p + 1), comes_up_to_it (72 * n + (p + 1)) l)))
        in
        record {
          is_pentad = is_pentad;
          has_come = has_come;
          is_last = λ m q is_other has_come.
              moments_rise c 72 c.denominator ok.pentads_exact (omega arith) ok.denominator_some m q n p
              (omega (arith, up_to_it m q has_come));
        }

    -- Its year is the one between whose solstice days the day lies.
    pub year_from : (m : ℕ) → solstice_day c m ≤ d → m ≤ pentad_on c d / 72
    year_from m h =
        omega (
          arith,
          step_is_last c 72 (omega arith) ok.solar_some (year_some c ok) (d + 1) (72 * m)
              (omega (arith, first_step_day c 72 m (omega arith))),
        )

    pub year_before : (m : ℕ) → d < solstice_day c m → pentad_on c d / 72 < m
    year_before m h =
        by_order (pentad_on c d) (72 * m)
        (λ l. omega arith)
        (λ l. absurd (omega (arith, first_step_day c 72 m (omega arith), comes_up_to_it (72 * m) l)))

    pub solar_year : InSolarYear c (pentad_on c d / 72) d
    solar_year =
        let n = pentad_on c d / 72 in (
          by_order d (solstice_day c n) (λ l. omega (arith, year_before n l)) (λ l. l),
          by_order d (solstice_day c (n + 1)) (λ l. l) (λ l. omega (arith, year_from (n + 1) l)),
        )

    pub only_solar_year : (n : ℕ) → InSolarYear c n d → n ≡ pentad_on c d / 72
    only_solar_year n y = omega (arith, year_from n y.0, year_before (n + 1) y.1)

    pub year_of_pentad : (n p : ℕ) → InForce c d n p → InSolarYear c n d
    year_of_pentad n p f = subst (λ m. InSolarYear c m d) (sym (only_in_force n p f).0) solar_year
