-- The numbers of each system's rules for submerged days (没日) and extinguished days (灭日): paper 02, Q-10, with 002 and
-- 003. Both terms are the customer's own.
use Rattle.std.specs.Prelude.{ℕ, ◌+◌, ◌*◌, ◌-◌, List, [], ◌∷◌, length, get_or}
use Rattle.calendar.specs.Inside.{Inside}
use Rattle.submerged_extinguished.specs.declared.rules.Rule.{Rule}
use Rattle.submerged_extinguished.specs.declared.rules.Ruled.{Ruled}
use Rattle.submerged_extinguished.specs.declared.rules.Ruled.TheVariants.{Guantian, Jiyuan}

-- System 1, Guantian. The limit is 9,402 whole parts, each of 36 small units.
abbrev pub guantian_rule : Rule
guantian_rule =
    record { limit = 9402 * 36; minuend = 4_393_880; multiplier = 360; divisor = 63_080; shortfall = 5647 }

-- System 2, Jiyuan. The limit is 5,697 parts and a quarter, which is one small unit.
abbrev pub jiyuan_rule : Rule
jiyuan_rule =
    record { limit = 5697 * 4 + 1; minuend = 443_771; multiplier = 60; divisor = 6371; shortfall = 3422 }

-- In the order of the systems' numbers, from 1. System 3 has none.
abbrev pub rules : List Rule
rules = guantian_rule ∷ jiyuan_rule ∷ []

abbrev pub last_rule : ℕ
last_rule = length rules

-- A system that has rules; refusal SYSTEM is for any other.
abbrev pub HasRule : ℕ → Type 0
HasRule system = Inside 1 last_rule system

-- The number of a system that has rules.
abbrev pub ruled_number : Ruled → ℕ
ruled_number Guantian = 1
ruled_number Jiyuan = 2

-- The rule that a system's number picks. A request with any other number is refused; that it picks Guantian's has no
-- effect.
abbrev pub rule_of : ℕ → Rule
rule_of system = get_or rules (system - 1) guantian_rule
