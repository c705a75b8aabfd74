pub mod Month
pub mod Whole
