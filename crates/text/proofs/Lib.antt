-- Laws that serve several functions.
-- Text written piece by piece.
pub mod Writing
-- Text put into an output where there is room for it.
pub mod Putting
-- Decimal numbers by their size.
pub mod Decimals
-- A number that is written reads back as itself.
pub mod ReadBack
-- How long the pieces of a line are at most.
pub mod Lengths
-- The letters of the systems.
pub mod Letters
