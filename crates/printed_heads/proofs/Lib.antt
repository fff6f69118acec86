-- A test over a whole table, and what it says of each entry.
pub mod Table
-- The test over the page: each number on it is the register day of its year's head.
pub mod EachEntry
-- What is answered from the page, as an equation and in words.
pub mod PageAnswers
-- Some years, computed.
pub mod Examples
