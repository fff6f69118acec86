-- The laws of the reckoning, each proved once. `Laws` is the summary.
-- Whole division: what is cut down; scalings, and how they are inverted.
pub mod Division
-- Equal steps of a year: they close, they fall on finer ones, and on which day.
pub mod Steps
-- The qi, as equal steps.
pub mod QiLaws
-- Tests taken apart.
pub mod Cases
-- Functions that rise at each step.
pub mod Rising
-- What holds in every calendar.
pub mod EveryCalendar
-- Constants that meet the list make a calendar.
pub mod Reckoned
-- A month's bounds and leap mark by what divisions leave over.
pub mod Remainders
-- The worded rules and the closed forms: the months of a year.
pub mod Spans
-- The worded rules and the closed forms: middle qi, numbers and leap marks.
pub mod Numbers
-- The laws of months and years, in the paper's words.
pub mod Laws
-- New moons with their remainders; the middle qi that months hold, by index.
pub mod HeldQi
-- The leap month of a year, found.
pub mod LeapMonths
-- The pentads, as equal steps; which of them is in force on a day.
pub mod PentadLaws
-- The names of days.
pub mod NameLaws
-- The list, checked for each system.
pub mod EachSystem
-- Jingchu's constants against its treatise.
pub mod Jingchu
