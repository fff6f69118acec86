-- Laws of a comparison.
-- Signed differences of register days.
pub mod SignedDays
-- The places listed of two years, one after another.
pub mod Listing
-- What the values of two years say of a place.
pub mod PlaceCases
-- The values of two years beside the reckoning, place by place.
pub mod MonthsCompared
-- What is refused, and that what is not is in scope.
pub mod Refusals
-- What an answer has at each of its entries.
pub mod Entries
-- The case of a place, by which of the two has a month there.
pub mod SaysCases
-- A system compared with itself.
pub mod Itself
-- Two systems the other way round.
pub mod Swapping
-- Three years, computed.
pub mod Examples
-- What a comparison answers is so by the reckoning.
pub mod ComparisonRight
