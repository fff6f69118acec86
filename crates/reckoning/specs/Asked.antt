-- What a request by system and year stands on.
use Rattle.std.specs.Prelude.{ℕ}
use Rattle.calendar.specs.declared.data.Constants.{Constants}
use Rattle.calendar.specs.Systems.{constants_of, years_elapsed}

-- Its refusal number, the system's constants and the years elapsed.
pub record Asked : Type 0 where
  pub refusal : ℕ
  pub c : Constants
  pub n : ℕ

abbrev pub asked_of : ℕ → ℕ → ℕ → Asked
asked_of refusal system year =
    record { refusal = refusal; c = constants_of system; n = years_elapsed (constants_of system) year }
