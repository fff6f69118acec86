-- The reckoning of paper 01, with the rules of paper 02. The first seven files render them in the order of paper 01, to
-- be checked against both by reading.
-- The words of this trade are in docs/TERMS.md, and how to read this notation is in docs/READING.md.
-- The constants of the systems, years elapsed, register days.
pub mod Systems
-- The sixty-day name of a day.
pub mod SixtyDayName
-- The solstice, equal steps of a year, and how a moment is told.
pub mod Steps
-- The qi, 24 to a year.
pub mod Qi
-- The 72 pentads, and which of them is in force on a day.
pub mod Pentad
-- Mean new moons, the days of a month, the middle qi that it holds, its number and its leap mark.
pub mod Month
-- The months and the days of a year, its head and its length; a day's ordinal.
pub mod Year
-- A number in a range.
pub mod Inside
-- A quotient cut down to a whole number.
pub mod CutDown
-- Exactly one number with a property, as the laws say it.
pub mod ExactlyOne
-- What the laws ask of a system's constants.
pub mod Consistent
-- What the laws need of a calendar, and nothing else.
pub mod Calendar
-- The functions by which the code reckons, with no search.
pub mod ClosedForms
-- The leap month of a year.
pub mod LeapMonth
