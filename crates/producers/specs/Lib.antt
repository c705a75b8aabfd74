pub mod After
pub mod Terms
