pub mod Handling
pub mod Running
