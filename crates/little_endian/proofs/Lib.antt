-- Laws on numbers as bytes.
-- A number read from its own bytes.
pub mod ReadBack
