pub mod Bounds
pub mod ShortForm
