pub mod Semiring
pub mod Solver
pub mod Patterns
pub mod Elementary
pub mod Binomial
pub mod Waring
pub mod Rows
pub mod Fronts
pub mod Composition
pub mod Convolution
pub mod Naturals
pub mod Each
pub mod Filled
mod Examples
