pub mod Passes
pub mod Sums
pub mod Rounding
pub mod Rows
