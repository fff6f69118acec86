-- Theorems on the sun's excess and shortfall, and laws that serve several functions.
-- The amount by a limit, over any that meets the list.
pub mod LimitLaws
-- What is taken of a day, and that it is within the limit that is used.
pub mod Taking
-- What the code returns, by its tests.
pub mod Answering
-- What the paper says of the sun's excess and shortfall.
pub mod AmountRight
-- Answers, computed.
pub mod Examples
