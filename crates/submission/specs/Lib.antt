pub mod Words
pub mod Submissions
pub mod Places
pub mod Reading
pub mod Writing
