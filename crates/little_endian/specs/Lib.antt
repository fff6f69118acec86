-- Numbers as bytes.
-- Bytes by their place.
pub mod Bytes
-- Numbers of two, of four and of eight bytes.
pub mod Number
