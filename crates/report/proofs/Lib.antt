pub mod Bytes
pub mod Inputs
pub mod Judgements
