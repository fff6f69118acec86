-- Text, as lists of bytes.
-- Decimal numbers.
pub mod Decimal
-- The pieces that lines are made of.
pub mod Piece
-- Text written into an output.
pub mod Wrote
-- Text put into an output where there is room for it.
pub mod Put
