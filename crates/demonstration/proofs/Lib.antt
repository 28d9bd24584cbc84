pub mod Matrices
pub mod Cases
pub mod Lists
pub mod Prices
pub mod Limits
pub mod Months
