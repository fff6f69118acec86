-- Laws that serve several functions.
-- The text of a signed number of days, by its sign and its size.
pub mod DaysText
-- The line of a place from its pieces.
pub mod PlaceText
-- The page from its lines.
pub mod PageText
-- Places that can be told.
pub mod PlacesTold
