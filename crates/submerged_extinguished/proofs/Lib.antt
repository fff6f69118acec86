-- Theorems on submerged and extinguished days, and laws that serve several functions.
-- The rule, over any numbers that meet the list.
pub mod RuleLaws
-- The list, checked for each system, and each system's own words.
pub mod EachRule
-- From one new moon to the next.
pub mod MoonLaws
-- The new moons of a year as the code goes through them.
pub mod MoonList
-- The code's numbers fit.
pub mod WordFits
-- A system that has a rule, and a year in scope.
pub mod RuleScope
-- How the request for a submerged day ends.
pub mod SubmergedEnds
-- How the request for an extinguished day ends.
pub mod ExtinguishedEnds
-- The days of a year, and its months by them.
pub mod DaysAsked
-- What the paper says of submerged and extinguished days.
pub mod DaysRight
-- Answers, computed.
pub mod Examples
