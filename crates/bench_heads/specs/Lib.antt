-- The head of a year as a bare number.
pub mod Heads
