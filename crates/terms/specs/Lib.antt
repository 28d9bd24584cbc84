pub mod Refusals
pub mod Ranges
pub mod Pairs
pub mod Tables
