pub mod Months
pub mod Guarantees
pub mod Instalments
pub mod Payments
pub mod Charges
pub mod Floors
pub mod Transfers
