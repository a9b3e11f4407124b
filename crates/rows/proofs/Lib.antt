pub mod Convolving
pub mod Households
