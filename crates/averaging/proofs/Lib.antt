pub mod Peak
pub mod Answered
