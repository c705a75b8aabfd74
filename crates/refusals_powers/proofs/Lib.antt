pub mod Low
pub mod Powers
