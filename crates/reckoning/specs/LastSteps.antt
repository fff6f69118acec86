-- Steps as the code finds them.
use Rattle.std.specs.Prelude.{ℕ, ◌*◌, ◌-◌, ◌%◌}
use Rattle.calendar.specs.declared.data.Constants.{Constants}
use Rattle.calendar.specs.ClosedForms.{step_before}
use Rattle.reckoning.specs.declared.closed_forms.LastStep.{LastStep}

-- The last of s equal steps a year on a day before d, and what the division that finds it leaves over.
abbrev pub last_step : Constants → ℕ → ℕ → LastStep
last_step c s d = record { step = step_before c s d; left = (d * (s * c.solar) - 1) % c.year }
