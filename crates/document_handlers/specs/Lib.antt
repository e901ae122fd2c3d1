pub mod Addition
pub mod Scan
pub mod Work
