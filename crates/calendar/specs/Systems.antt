-- The systems: paper 01, "Constants", and of paper 02, Q-4, the denominator of a pentad's fraction; Jingchu by Q-6.
use Rattle.std.specs.Prelude.{ℕ, ◌+◌, ◌-◌, ◌≡◌, Bool, List, [], ◌∷◌, ltb, length, get_or, Result, MatchResult}
use Rattle.calendar.specs.declared.data.Constants.{Constants}
use Rattle.calendar.specs.declared.systems.System.{System}
use Rattle.calendar.specs.declared.systems.System.TheVariants.{Guantian, Jiyuan, Jingchu}
use Rattle.calendar.specs.declared.systems.NoSuchSystem.{NoSuchSystem}
use Rattle.calendar.specs.Inside.{Inside}

-- System 1, Guantian.
abbrev pub guantian : Constants
guantian =
    record {
      solar = 12_030;
      lunar = 12_030;
      year = 4_393_880;
      month = 355_253;
      units = 36;
      denominator = 36;
      elapsed = 5_944_808;
      common = 1092;
      name = 0;
      anchor = 2_169_182_929;
      epoch = 0;
    }

-- System 2, Jiyuan.
abbrev pub jiyuan : Constants
jiyuan =
    record {
      solar = 7290;
      lunar = 7290;
      year = 2_662_626;
      month = 215_278;
      units = 4;
      denominator = 60;
      elapsed = 28_613_460;
      common = 1100;
      name = 15;
      anchor = 10_448_760_934;
      epoch = 0;
    }

-- System 3, Jingchu. The printed 4,046 of 001 counts the year itself among the years elapsed.
abbrev pub jingchu : Constants
jingchu =
    record {
      solar = 1843;
      lunar = 4559;
      year = 673_150;
      month = 134_630;
      units = 12;
      denominator = 36;
      elapsed = 4045;
      common = 237;
      name = 0;
      anchor = 0;
      epoch = 330_191;
    }

-- The systems in the order of their numbers, from 1.
abbrev pub systems : List Constants
systems = guantian ∷ jiyuan ∷ jingchu ∷ []

abbrev pub last_system : ℕ
last_system = length systems

-- The constants that a system's number picks. A request with any other number is refused; that it picks Guantian's has no
-- effect.
abbrev pub constants_of : ℕ → Constants
constants_of system = get_or systems (system - 1) guantian

-- A system's number.
abbrev pub system_number : System → ℕ
system_number Guantian = 1
system_number Jiyuan = 2
system_number Jingchu = 3

-- What is found by a number: the system that has it; or, where no system has it, the number.
abbrev pub Numbered : ℕ → Result System NoSuchSystem → Type 0
Numbered number r =
    MatchResult r (λ s. system_number s ≡ number) (λ e. (e.0 ≡ number) × (Inside 1 last_system number → ⊥))

-- Row "years elapsed": N at common year A. It rises by one a year; the printed "two" of 002 is corrected.
-- The sum stands before the difference, so that it is right for every A from 1.
abbrev pub years_elapsed : Constants → ℕ → ℕ
years_elapsed c a = c.elapsed + a - c.common

-- Row "register day": r is the register day of count day d. It is d less the anchor (01) or d plus the epoch's register
-- day (Q-6); the other of the two is 0. Said by sums, since a difference is cut at 0.
abbrev pub IsRegisterDay : Constants → ℕ → ℕ → Type 0
IsRegisterDay c r d = r + c.anchor ≡ d + c.epoch

-- Each told from the other, where there is such a day.
abbrev pub register_day : Constants → ℕ → ℕ
register_day c d = d + c.epoch - c.anchor

abbrev pub count_day : Constants → ℕ → ℕ
count_day c r = r + c.anchor - c.epoch

-- Register day r has no count day, since it lies before the epoch.
abbrev pub before_epoch : Constants → ℕ → Bool
before_epoch c r = ltb (r + c.anchor) c.epoch
