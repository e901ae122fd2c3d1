pub mod Extents
pub mod Listing
pub mod Operators
pub mod Pairs
pub mod Plans
pub mod Presence
pub mod Rows
