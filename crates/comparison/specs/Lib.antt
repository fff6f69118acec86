-- What a comparison of two systems promises.
-- The answer as the papers have it.
pub mod Answers
-- What it answers, for every input.
pub mod Comparisons
-- How what the code returns tells that answer.
pub mod Told
-- Two years at one place, as the code has them.
pub mod Months
-- Where two systems differ, in the paper's words.
pub mod WhereSystemsDiffer
-- A comparison with the two systems the other way round.
pub mod Swapped
