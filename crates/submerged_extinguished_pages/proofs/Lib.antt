-- Laws that serve several functions.
-- The line of a qi or a new moon from its pieces.
pub mod LineText
-- The pages from their lines.
pub mod PageText
-- Lines, computed.
pub mod Examples
