pub mod Sums
pub mod Splits
pub mod Spans
pub mod Lateness
