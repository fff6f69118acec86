-- What the run of the almanac promises.
-- What is printed of the numbers of a range.
pub mod Pages
