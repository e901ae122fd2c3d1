pub mod Marks
pub mod Orders
pub mod Places
pub mod Shown
