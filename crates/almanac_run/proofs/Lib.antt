-- Laws that serve several functions.
-- A buffer filled with pages, one after another.
pub mod Filling
-- A page by what was asked for.
pub mod RequestedPages
