-- The systems that have an exchange: 1 and 2.
use Rattle.std.specs.Prelude.{ℕ, ◌≡◌, ◌⊎◌, cond, eqb}
use Rattle.calendar.specs.Systems.{guantian, jiyuan}

abbrev pub HasExchange : ℕ → Type 0
HasExchange system = (system ≡ 1) ⊎ (system ≡ 2)

-- Parts in a day, D; 0 of a system that has no exchange.
abbrev pub parts_in_day : ℕ → ℕ
parts_in_day system = cond (eqb system 1) guantian.solar (cond (eqb system 2) jiyuan.solar 0)
