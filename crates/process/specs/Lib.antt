-- What a program may expect of the system.
-- Exit statuses.
pub mod Exit
-- The command line.
pub mod CommandLine
