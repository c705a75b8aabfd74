pub mod Rounding
pub mod Adding
pub mod Pricing
