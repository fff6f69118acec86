-- What the pages of submerged and extinguished days promise.
pub mod DistancePages
