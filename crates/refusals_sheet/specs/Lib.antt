pub mod Tests
pub mod Numbers
