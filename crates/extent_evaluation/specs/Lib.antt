pub mod Counts
pub mod Covers
pub mod Listed
pub mod Nearest
