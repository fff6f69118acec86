-- What the exchange with the observatory's list promises.
-- The words of this trade are in docs/TERMS.md, and how to read this notation is in docs/READING.md.
-- The systems that have an exchange, and the parts in their day.
pub mod Systems
-- The fields of a row, and the row of a fraction.
pub mod Row
-- When each numbered refusal applies, in the paper's order.
pub mod ExchangeRefusals
-- What an export answers and writes, for every input and output.
pub mod Export
-- What an import answers, for every input.
pub mod Import
-- How each can end, in the paper's words.
pub mod Outcomes
