pub mod Hours
pub mod Numbers
pub mod Order
