pub mod After
pub mod Parts
pub mod Products
pub mod Turns
