-- Theorems on fractions of a day, and laws that serve several functions.
-- The order of floats that are finite and not below zero.
pub mod Sizes
-- What is no fraction of a day.
pub mod NoFractions
-- Floats below zero, by their bit patterns.
pub mod BelowZero
-- The count that a fraction is cut down to.
pub mod Cuts
-- Quotients rounded once.
pub mod Rounding
-- Fractions that a float is exactly.
pub mod Exactness
-- The fractions of the counts of a day's parts.
pub mod Counts
-- The largest count whose fraction is not above another.
pub mod Largest
-- A fraction of a day times the parts in a day.
pub mod Product
-- Floats from 2^52 up to 2^53.
pub mod WholeFloats
-- The code's guess.
pub mod Guessing
-- What the code settles a fraction to, by its tests.
pub mod Ends
-- The exported fraction of a count settles to that count.
pub mod ComesBack
-- The count that the code finds.
pub mod Counting
-- Fractions and counts, computed.
pub mod Examples
