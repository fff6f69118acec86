-- Laws that serve several functions.
-- A line from its pieces.
pub mod LineText
-- Lines, computed.
pub mod Examples
