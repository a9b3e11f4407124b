pub mod Ring
pub mod Patterns
pub mod Rows
pub mod Binomial
pub mod Sums
pub mod Waring
