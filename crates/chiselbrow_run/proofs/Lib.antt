-- Laws that serve several functions.
-- One turn, from what its steps leave.
pub mod Turning
-- A step, from its turn.
pub mod Stepping
-- However the input comes in pieces.
pub mod WholeRun
