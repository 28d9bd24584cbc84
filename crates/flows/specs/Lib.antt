pub mod Choices
pub mod Factors
pub mod Loads
pub mod Nodes
pub mod PairRows
pub mod Rules
pub mod Ranges
pub mod Products
