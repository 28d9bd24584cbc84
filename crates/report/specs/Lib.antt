pub mod Inputs
pub mod Readings
pub mod Texts
pub mod Answers
