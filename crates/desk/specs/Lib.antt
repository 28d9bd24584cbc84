pub mod Hands
pub mod Runs
