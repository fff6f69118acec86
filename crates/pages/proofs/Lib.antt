-- Laws that serve several functions.
-- The months and the days of a year that was asked for.
pub mod YearAsked
-- How the writing of a page ends.
pub mod Ending
-- The lines of equal steps from their pieces.
pub mod StepText
-- What is printed of pentads from its pieces.
pub mod PentadText
-- The text of a page from its pieces.
pub mod PageText
-- Two lines, computed.
pub mod Examples
