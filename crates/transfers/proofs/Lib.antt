pub mod Turn
pub mod Written
pub mod Answered
