pub mod Floats
pub mod Answer
