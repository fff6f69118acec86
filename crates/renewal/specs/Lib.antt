-- What renewing does.
-- Of a buffer, and of a whole input.
pub mod Renewal
