pub mod Events
pub mod Answer
