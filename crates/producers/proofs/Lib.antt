pub mod After
pub mod Cuts
pub mod Hours
