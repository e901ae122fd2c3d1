pub mod Contents
pub mod Kept
pub mod MarkedParts
pub mod Marks
pub mod Parts
pub mod Placing
