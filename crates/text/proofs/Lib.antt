pub mod Digits
pub mod Decimal
pub mod Spaces
pub mod FirstLine
pub mod Echoes
pub mod Slash
pub mod FloatTexts
