pub mod Standing
pub mod Wrapping
pub mod Places
pub mod Orders
pub mod Evenings
pub mod Fitting
pub mod Known
pub mod Found
