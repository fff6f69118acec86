-- What the requests for submerged and extinguished days promise.
-- The numbers of each system's rules.
pub mod Rules
-- The rules in the paper's words, with exact remainders.
pub mod Distances
-- What the laws ask of a system's numbers.
pub mod RuleHolds
-- Answers as the papers have them.
pub mod Records
-- What is answered, for every input.
pub mod Answers
-- How what the code returns tells those answers.
pub mod Told
-- New moons as the code has them.
pub mod Moons
-- How each request can end, in the paper's words.
pub mod Outcomes
-- Bounds of machine words, under which the code's numbers fit.
pub mod WordBounds
