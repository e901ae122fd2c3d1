pub mod Ahead
pub mod Causes
