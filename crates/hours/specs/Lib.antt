pub mod Series
pub mod Sums
pub mod Order
pub mod Control
pub mod Figures
