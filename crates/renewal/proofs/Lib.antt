-- Laws that serve several functions.
-- The loop over a buffer.
pub mod Renewing
-- What is written of a whole input.
pub mod WholeInput
-- The output, read again.
pub mod ReadAgain
