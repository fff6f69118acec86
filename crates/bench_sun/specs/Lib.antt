-- The amount of a day as a bare number.
pub mod Amounts
