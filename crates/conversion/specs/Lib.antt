-- The conversion of records of the retired kind 2.
-- What it refuses, answers and writes, for every input and output.
pub mod Conversion
-- How what the code returns tells a refusal.
pub mod Told
-- What storing a record of kind 2 answered and left before it was retired.
pub mod KindTwo
