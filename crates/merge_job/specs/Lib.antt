pub mod Closed
pub mod Cut
pub mod Marking
pub mod Marks
pub mod Merge
pub mod NewParts
pub mod Range
pub mod Walk
