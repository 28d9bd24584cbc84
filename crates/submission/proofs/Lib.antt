pub mod Lines
pub mod Forms
pub mod Prefixes
pub mod Hands
pub mod Fills
