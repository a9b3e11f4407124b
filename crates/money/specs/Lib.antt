pub mod Money
pub mod Answer
