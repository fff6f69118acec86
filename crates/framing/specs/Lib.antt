-- Records one after another, and a run over them.
-- An input cut into records.
pub mod Framing
-- What a buffer holds after bytes were moved in it.
pub mod Buffer
-- What a run writes, turn after turn.
pub mod Run
-- What a step of a run leaves.
pub mod Stepped
