-- Proofs that serve several functions, and the theorems of the three demands.
-- The cases of each kind's judgement.
pub mod JudgementCases
-- What the reckoning tells with a refusal: nothing where a day or a date is asked.
pub mod NothingTold
-- What is a whole record, and what is refused before.
pub mod WholeRecord
-- Ten bytes at the front of an output.
pub mod TenBytes
-- The three ways in which a storing ends.
pub mod Storing
-- Rows of refusals.
pub mod RowLaws
-- A citation names one day at most.
pub mod OneDay
-- How a citation is judged.
pub mod JudgedByKind
-- Every citation is judged by the table.
pub mod FirstRefusal
-- What is told with a refusal.
pub mod LeapMonthTold
-- A register day has one date in a system.
pub mod OneDate
-- A stored record is itself a citation.
pub mod StoredRecord
-- Stored records are canonical.
pub mod Canonical
-- Citations of kind 1.
pub mod KindOne
-- The three demands: the summary.
pub mod Demands
-- The proved examples of papers 01 and 02.
pub mod Examples
