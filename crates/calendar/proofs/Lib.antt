pub mod Shown
pub mod Limits
pub mod RowsSet
pub mod Ranged
