-- What the requests promise, for every input.
-- The words of this trade are in docs/TERMS.md, and how to read this notation is in docs/READING.md.
-- What is in scope: systems, years, months and days.
pub mod Scope
-- The numbers of the refusals.
pub mod RefusalNumbers
-- Tables of refusals in words: the first row that applies.
pub mod WordedRefusals
-- The divisions of a year that can be asked for: qi and pentads.
pub mod Divisions
-- Refusals as they are computed: the first rule that applies.
pub mod ComputedRefusals
-- What a request by system and year stands on.
pub mod Asked
-- Common years told from years elapsed.
pub mod CommonYears
-- Steps as the code finds them.
pub mod LastSteps
-- Months as the code has them.
pub mod MonthSpans
-- Answers as the papers have them.
pub mod Answers
-- What each request answers.
pub mod Requests
-- How what the code returns tells those answers.
pub mod Told
-- What the value of a year's months holds, in the paper's words.
pub mod YearValue
-- What the answers for a qi, a pentad and a day sheet hold.
pub mod AnswerMeanings
-- How the other requests can end.
pub mod Outcomes
-- Lists filled from their first place on.
pub mod Filled
-- Bounds of machine words: constants, days, months and years whose numbers fit.
pub mod WordBounds
