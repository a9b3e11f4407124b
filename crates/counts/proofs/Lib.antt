pub mod Floats
pub mod Powers
pub mod Counting
