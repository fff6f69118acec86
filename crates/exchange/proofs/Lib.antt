-- Theorems on the exchange, and laws that serve several functions.
-- The parts in a day of a system that has an exchange.
pub mod DayParts
-- Bit patterns of floats.
pub mod Patterns
-- What an import answers, by the tests of the code.
pub mod Importing
-- What an export answers and writes, by the tests of the code.
pub mod Exporting
-- Every export ends as the paper says.
pub mod ExportRight
-- Every import ends as the paper says.
pub mod ImportRight
-- An exported row comes back.
pub mod RowsBack
-- Rows and answers, computed.
pub mod Examples
