pub mod Kept
pub mod PartSums
pub mod Reading
pub mod Sums
pub mod Told
