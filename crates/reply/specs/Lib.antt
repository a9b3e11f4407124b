pub mod Layout
pub mod Rules
pub mod Asked
