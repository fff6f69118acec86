-- The qi, as equal steps.
use Prim.Native.Nat.{ℕ, ◌+◌, ◌*◌}
use mathlib.Core.Path.{◌≡◌, refl, ◌∙◌}
use native.Mathlib.Omega.{arith}
use Rattle.calendar.specs.declared.data.Constants.{Constants}
use Rattle.calendar.specs.Systems.{guantian, jiyuan, jingchu}
use Rattle.calendar.specs.Steps.{solstice_day, solstice_remainder, step, day_of, parts_of, units_of}
use Rattle.calendar.specs.Qi.{qi}
use Rattle.calendar.specs.Month.{middle_qi}
use Rattle.calendar.specs.Consistent.{Consistent}
use Rattle.calendar.specs.ClosedForms.{day_of_qi}
use Rattle.calendar.proofs.Division.{shared_factor}
use Rattle.calendar.proofs.Steps.{steps_close, step_day, step_zero}

-- The corrected step of 002: 15 days, 2,628 parts and 12 small units; its double step agrees.
pub guantian_step : step guantian 24 guantian.units ≡ (15 * 12_030 + 2628) * 36 + 12
guantian_step = refl

pub guantian_double_step : 2 * step guantian 24 guantian.units ≡ (30 * 12_030 + 5256) * 36 + 24
guantian_double_step = refl

-- The step that 003 prints, 15 days, 1,592 parts and three quarters.
pub jiyuan_step : step jiyuan 24 jiyuan.units ≡ (15 * 7290 + 1592) * 4 + 3
jiyuan_step = refl

-- The step that 001 prints, 15 days, 402 parts and 11 small units.
pub jingchu_step : step jingchu 24 jingchu.units ≡ (15 * 1843 + 402) * 12 + 11
jingchu_step = refl

module _ (c : Constants) (ok : Consistent c) where
  -- Qi 24 of a year is qi 0 of the next.
  pub qi_closes : (n : ℕ) → qi c n 24 ≡ qi c (n + 1) 0
  qi_closes n = steps_close c 24 c.units ok.qi_exact n

  -- Middle qi, counted on from the epoch, twelve to a year: their days by the closed form.
  pub qi_day : (n j : ℕ) → day_of c c.units (middle_qi c n j) ≡ day_of_qi c (12 * n + j)
  qi_day n j =
      step_day c 24 c.units ok.qi_exact (omega arith) ok.units_some n (2 * j)
      ∙ shared_factor 2 ((12 * n + j) * c.year) (12 * c.solar) (omega arith) (omega arith) (omega arith)

  -- Qi 0 is the winter solstice.
  pub qi_zero : (n : ℕ)
      → (day_of c c.units (qi c n 0) ≡ solstice_day c n)
      × (parts_of c c.units (qi c n 0) ≡ solstice_remainder c n)
      × (units_of c.units (qi c n 0) ≡ 0)
  qi_zero n = step_zero c 24 c.units n ok.units_some
