pub mod Calendars
pub mod Tables
pub mod Runs
pub mod Matrices
pub mod Cases
pub mod Answers
