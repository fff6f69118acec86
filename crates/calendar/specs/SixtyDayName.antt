-- The sixty-day name of a day: 1 is jiazi, 60 is guihai.
use Rattle.std.specs.Prelude.{ℕ, ◌+◌, ◌%◌}
use Rattle.calendar.specs.declared.data.Constants.{Constants}

-- Paper 01 has the round of sixty begin with 0; a name is told one higher: paper 02, Q-7.
abbrev pub name_told : ℕ → ℕ
name_told place = place % 60 + 1

-- Row "name of count day 0": names go on from it, one a day.
abbrev pub name_of_count_day : Constants → ℕ → ℕ
name_of_count_day c d = name_told (d + c.name)

-- The name of a register day, the same rule in all systems.
abbrev pub name_of : ℕ → ℕ
name_of r = name_told (r + 49)
