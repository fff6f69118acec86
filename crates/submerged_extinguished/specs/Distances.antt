-- Submerged and extinguished days in the words of paper 02, Q-10. Remainders are exact, and a distance is counted in
-- whole days, cut down.
use Rattle.std.specs.Prelude.{ℕ, ◌+◌, ◌*◌, ◌-◌, ◌≤◌, ◌<◌, ◌≡◌, Option, Some, None}
use Rattle.calendar.specs.declared.data.Constants.{Constants}
pub use Rattle.calendar.specs.CutDown.{CutDown}
use Rattle.submerged_extinguished.specs.declared.rules.Rule.{Rule}

-- The distance of a submerged day from its qi's: the minuend less the multiplier times the remainder, by the divisor.
-- The remainder is r small units, and so both sides of the quotient are in small units; the difference is said by a sum,
-- since it would be cut at 0.
pub record SubmergedDistance (c : Constants) (rule : Rule) (r days : ℕ) : Type 0 where
  pub difference : ℕ
  pub is : difference + rule.multiplier * r ≡ rule.minuend * c.units
  pub distance : CutDown difference (rule.divisor * c.units) days

-- What each case of an answer stands for, of a qi with a remainder of r small units: it has a submerged day when the
-- remainder is the limit or more.
abbrev pub SubmergedSays : Constants → Rule → ℕ → Option ℕ → Type 0
SubmergedSays c rule r (Some days) = (rule.limit ≤ r) × SubmergedDistance c rule r days
SubmergedSays c rule r None = r < rule.limit

-- And of a new moon with a remainder of r parts: it has an extinguished day when the remainder is below the shortfall;
-- distance 30 times the remainder by that number.
abbrev pub ExtinguishedSays : Rule → ℕ → Option ℕ → Type 0
ExtinguishedSays rule r (Some days) = (r < rule.shortfall) × CutDown (30 * r) rule.shortfall days
ExtinguishedSays rule r None = rule.shortfall ≤ r

-- Submerged days in each system's own words, for a remainder of so many parts and small units. Guantian: 9,402 whole
-- parts or more; 4,393,880 less 360 times the parts less 10 times the small units, by 63,080.
abbrev pub GuantianSays : ℕ → ℕ → Option ℕ → Type 0
GuantianSays parts units (Some days) = (9402 ≤ parts) × CutDown (4_393_880 - 360 * parts - 10 * units) 63_080 days
GuantianSays parts units None = parts < 9402

-- Jiyuan, whose small units are quarters, with all taken four times: 5,697 and a quarter or more; 443,771 less 60 times
-- the exact remainder, by 6,371.
abbrev pub JiyuanSays : ℕ → ℕ → Option ℕ → Type 0
JiyuanSays parts units (Some days) =
    (4 * 5697 + 1 ≤ 4 * parts + units) × CutDown (4 * 443_771 - 60 * (4 * parts + units)) (4 * 6371) days
JiyuanSays parts units None = 4 * parts + units < 4 * 5697 + 1
