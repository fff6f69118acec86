-- What the request for the sun's excess and shortfall promises.
-- The numbers of the rule.
pub mod Limits
-- The rule in the paper's words, and how the request can end.
pub mod Outcome
-- What the laws ask of a limit.
pub mod LimitHolds
-- The papers' answer, by its number and amount.
pub mod Records
-- What is answered, for every input.
pub mod Answers
-- How what the code returns tells it.
pub mod Told
