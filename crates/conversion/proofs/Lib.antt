-- Proofs that serve several functions, and the theorems on conversions.
-- The cases of a conversion's refusal.
pub mod Cases
-- Records in their place, and how a conversion ends.
pub mod Ends
-- The laws of the conversion.
pub mod Conversions
-- A converted record stores as the old one did.
pub mod StoresAsBefore
-- Conversions, computed.
pub mod Examples
