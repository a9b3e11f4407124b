pub mod Cells
pub mod Ledger
pub mod Passes
pub mod Refusals
pub mod Runs
pub mod Requests
pub mod Triangle
