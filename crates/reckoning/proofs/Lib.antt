-- Proofs that serve several functions, and theorems on what the requests answer.
-- Refusals: which rule applies, and what an accepted request has.
pub mod RefusalCases
-- What is told of a result.
pub mod ToldCases
-- Years in scope keep the bounds.
pub mod ScopeInRegister
-- The constants that a system's number picks.
pub mod Picking
-- How an answer follows from what was asked.
pub mod AnswerUnless
-- Equal steps of a year, as the code has them.
pub mod StepLaws
-- Direct requests are refused by their table.
pub mod RefusedRequests
-- Months with their bounds.
pub mod MonthSpanLaws
-- What the laws say of a year within the register.
pub mod RegisterLaws
-- The heads of years, printed and reckoned.
pub mod HeadLaws
-- The month of a year with a number and a leap mark.
pub mod MonthRequest
-- How the leap month of a year is found.
pub mod LeapMonthSearch
-- The common year of a day, and whether the day is in scope.
pub mod YearOfDay
-- The day of a year by its ordinal.
pub mod OrdinalRequest
-- The date of a register day.
pub mod DateRequest
-- The pentad in force on a register day.
pub mod PentadRequest
-- The value that `year` returns holds the months of the reckoning.
pub mod MonthsRight
-- Over its months, marks, numbers and heads agree with the middle qi held.
pub mod MonthsAgree
-- Filling a list, and reading it.
pub mod FilledLaws
-- The other answers hold what the reckoning says.
pub mod AnswersRight
-- How the other requests end.
pub mod RequestsEnd
-- How the request for the pentad in force ends.
pub mod PentadEnds
-- Answers leave room for the days that follow a head.
pub mod AnswersFit
