pub mod Bytes
pub mod Places
pub mod Records
pub mod Questions
