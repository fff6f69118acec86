-- What the pages promise.
-- The lines of a year's qi or pentads.
pub mod StepLines
-- The page of a year.
pub mod Page
-- What is printed of pentads.
pub mod PentadPages
-- How the writing of a page ends.
pub mod PageEnds
-- Months that can be told by their places.
pub mod Printable
