pub mod Numbers
pub mod After
pub mod Room
