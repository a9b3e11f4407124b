pub mod Sums
pub mod Differences
pub mod Columns
pub mod Rows
pub mod Computed
