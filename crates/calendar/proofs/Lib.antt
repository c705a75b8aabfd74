pub mod Days
pub mod Shifts
