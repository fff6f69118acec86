-- What the page of a comparison promises.
-- The page of a comparison.
pub mod ComparisonPage
-- Places that can be told.
pub mod Printable
