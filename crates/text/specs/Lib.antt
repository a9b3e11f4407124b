pub mod Text
pub mod Floats
pub mod Reading
pub mod Understood
