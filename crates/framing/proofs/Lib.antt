-- Laws that serve several functions.
-- The record at a place of a buffer.
pub mod Framed
-- An input cut into records, one after another.
pub mod Cutting
-- What is left after the records.
pub mod Rest
-- Records written anew.
pub mod Again
-- A step that reads.
pub mod Stepping
-- However the input comes in pieces.
pub mod WholeRun
