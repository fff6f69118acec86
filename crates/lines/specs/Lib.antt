-- What the program writes.
-- The line of a record.
pub mod Line
-- The lines of records one after another.
pub mod Program
