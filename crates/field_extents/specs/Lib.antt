pub mod Extents
pub mod Fields
pub mod Passed
