-- What arguments are read as.
-- The options that every program has.
pub mod Options
-- Decimal numbers.
pub mod Number
-- How many numbers a range has.
pub mod Ranges
