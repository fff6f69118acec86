-- Laws that serve several functions.
-- Decimal arguments, digit by digit.
pub mod Digits
-- Numbers of any length, place by place.
pub mod Places
-- The numbers of a range, by what its ends are.
pub mod RangeCases
