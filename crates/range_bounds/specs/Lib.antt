pub mod Bounds
pub mod Most
pub mod Ranges
pub mod Tables
