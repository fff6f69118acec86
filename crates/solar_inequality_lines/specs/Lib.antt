-- What the lines of the sun's excess and shortfall promise.
pub mod AmountLine
