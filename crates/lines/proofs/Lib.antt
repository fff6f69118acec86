-- Laws that serve several functions.
-- The line of a record by its judgement, and its length.
pub mod Lines
-- What is written, record by record.
pub mod Cutting
-- One turn of the loop over a buffer.
pub mod Turn
-- An output that takes all the records of a buffer.
pub mod AllRecords
-- Buffer after buffer, what the program writes on the whole input.
pub mod WholeProgram
-- The line of a record, by the reckoning.
pub mod Told
-- The run that paper 01 shows.
pub mod Examples
