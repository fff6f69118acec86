-- What the run does between one call of the system and the next.
-- One turn.
pub mod Turn
-- What a step leaves.
pub mod Stepped
