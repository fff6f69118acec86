-- Citations: their records, the day that they name, their refusals, and what the storing step promises.
-- The words of this trade are in docs/TERMS.md, and how to read this notation is in docs/READING.md.
-- The record formats of the kinds.
pub mod Record
-- The month of a citation, and the day that it names, by the reckoning.
pub mod DayCited
-- When each numbered refusal applies, in the table's order, and what is told with it.
pub mod CitationRefusals
-- A record at the front of a lent output.
pub mod Output
-- A judgement as the papers have it.
pub mod Answers
-- What the storing step answers and writes, for every input and output.
pub mod Store
-- How what the code returns tells a judgement.
pub mod Told
-- What the demands ask for, in words.
pub mod DemandWords
-- What the parts of the judgement are handed and give.
pub mod JudgeParts
