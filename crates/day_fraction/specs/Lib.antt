-- A time of day as a fraction of the day, a 64-bit float.
-- The fraction of a count of parts.
pub mod Fraction
-- What is a fraction of a day, and the count that it settles to.
pub mod Settling
