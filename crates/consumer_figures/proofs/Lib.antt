pub mod Within
pub mod Products
