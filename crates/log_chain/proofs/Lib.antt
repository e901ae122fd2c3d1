pub mod Powers
pub mod WholeLog
pub mod Extend
pub mod Enclosure
pub mod Rises
pub mod Reached
pub mod Bounds
pub mod Products
