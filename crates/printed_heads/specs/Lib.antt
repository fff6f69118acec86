-- Which heads are printed, and what the page says of a year.
pub mod PrintedHeads
