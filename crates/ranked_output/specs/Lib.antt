pub mod Explained
pub mod Marks
pub mod Texts
