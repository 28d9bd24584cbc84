pub mod Kinds
pub mod Values
pub mod Rows
pub mod Figures
pub mod InRange
pub mod Calls
pub mod Questions
pub mod Matrix
